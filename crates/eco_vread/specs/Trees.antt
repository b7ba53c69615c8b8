-- What the parser's values stand for: tokens that are left, and parts of a syntax tree.
use Rattle.std.specs.Prelude.{◌≡◌, Bool, true, false, List, [], ◌∷◌, map, Option, None, Some, option_map, Result, Ok, Err}
use Rattle.std.specs.Global.{Vec}
use Rattle.eco_vread.specs.Fronts.{Step}
use Rattle.eco_vread.specs.Fronts.Step.{more, last}
use Rattle.eco_tokens.specs.declared.Lexeme.{Lexeme}
use Rattle.eco_tokens.specs.Ahead.{tokens_ahead}
use Rattle.eco_tokens.specs.Said.{Said, said_of}
use Rattle.eco_vread.specs.declared.cursor.Cursor.{Cursor}
use Rattle.eco_vread.specs.declared.error.ParseError.{ParseError}
use Rattle.eco_vread.specs.declared.error.ParseError.TheVariants.{Syntax, OutOfMemory}
use Rattle.eco_vread.specs.declared.tree.GateInstance.{GateInstance}
use Rattle.eco_vread.specs.declared.assignment.Assignment.{Assignment as Assigned}
use Rattle.eco_vread.specs.declared.tree.Port.{Port as HeaderPort}
use Rattle.eco_vread.specs.declared.tree.Item.{Item}
use Rattle.eco_vread.specs.declared.tree.Item.TheVariants.{Input, Output, Wire, Gates, Assign}
use Rattle.eco_vread.specs.declared.tree.Module.{Module}
use Rattle.eco_vread.specs.Syntax.{Instance, Assignment, Statement, Port, File}
use Rattle.eco_vread.specs.Syntax.Statement.{input, output, wire, gates, assign}
use Rattle.eco_vread.specs.Views.{identifier_of, term_of}
use Rattle.eco_vread.specs.Postfix.{sign_of, expression_of}

-- the tokens that are left
abbrev pub left : Cursor → List Said
left c = tokens_ahead c.rest.now

-- the first of them, if there is one, and those behind it
abbrev pub left_from : Option (Lexeme × Cursor) → List Said
left_from None = []
left_from (Some found) = said_of found.0 ∷ left found.1

abbrev pub instance_of : GateInstance → Instance
instance_of i = record {
  label = option_map identifier_of i.label;
  outputs = map identifier_of i.outputs.items;
  inputs = map term_of i.inputs.items;
}

abbrev pub assignment_of : Assigned → Assignment
assignment_of a = record { name = identifier_of a.name; value = expression_of (map sign_of a.value.items) }

abbrev pub statement_of : Item → Statement
statement_of (Input also names) = input also (map identifier_of names.items)
statement_of (Output also names) = output also (map identifier_of names.items)
statement_of (Wire names) = wire (map identifier_of names.items)
statement_of (Gates kind instances) = gates kind (map instance_of instances.items)
statement_of (Assign list) = assign (map assignment_of list.items)

abbrev pub port_of : HeaderPort → Port
port_of p = record { direction = p.direction; name = identifier_of p.name }

abbrev pub header_of : Option (Vec HeaderPort) → Option (List Port)
header_of header = option_map (λ ports. map port_of ports.items) header

-- a statement, or the end of the module
abbrev pub item_step : Option Item → Step Statement (Unit {0})
item_step None = last tt
item_step (Some item) = more (statement_of item)

abbrev pub file_of : Module → File
file_of m = record {
  title = identifier_of m.title;
  header = header_of m.header;
  statements = map statement_of m.statements.items;
}

-- the error is an error of the grammar
abbrev pub is_error : ParseError → Bool
is_error (Syntax at) = true
is_error OutOfMemory = false

-- The result is this answer, seen by `view`; an error of the grammar stands for none, and want of memory for nothing.
abbrev pub Gives : {X Y : Type 0} → (X → Y) → Result X ParseError → Option Y → Type 0
Gives view (Ok x) answer = answer ≡ Some (view x)
Gives view (Err e) answer = is_error e ≡ true → answer ≡ None
