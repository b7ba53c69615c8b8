-- What the parser finds at the front of tokens, as functions on lists.
use Rattle.std.specs.Prelude.{ℕ, Bool, true, false, List, [], ◌∷◌, Option, Some, None, option_map, codes, if◌then◌else◌}
use Rattle.std.specs.Str.{bytes_eq}
use Rattle.eco_meaning.specs.declared.kind.Kind.{Kind}
use Rattle.eco_meaning.specs.declared.kind.Kind.TheVariants.{And, Nand, Or, Nor, Xor, Xnor, Buf, Not}
use Rattle.eco_tokens.specs.Said.{Said}
use Rattle.eco_vread.specs.declared.tree.Direction.{Direction}
use Rattle.eco_vread.specs.declared.tree.Direction.TheVariants.{In, Out}
use Rattle.eco_vread.specs.declared.words.Opening.{Opening}
use Rattle.eco_vread.specs.declared.words.Opening.TheVariants.{Input, Output, Wire, Gate, Assign}
use Rattle.eco_vread.specs.Syntax.{Identifier, Term, Instance, Assignment, Statement, Port, File}
use Rattle.eco_vread.specs.Syntax.Term.{low, high, net}
use Rattle.eco_vread.specs.Syntax.Statement.{input, output, wire, gates, assign}
use Rattle.eco_vread.specs.Grammar.{has_one_input, is_directed}
use Rattle.eco_vread.specs.Fronts.{Found, ◌>>=◌, is_word_kind, word_at, mark_at, name_at, term_at, wire_at, label_at, separator_at, Step, repeated, list_at}
use Rattle.eco_vread.specs.Fronts.Step.{more, last}
use Rattle.eco_vread.specs.Expressions.{expression_at}

-- an output, or the last input
abbrev pub connection_from : Term → Bool → List Said → Found (Step Identifier Term)
connection_from term false ts = Some (last term, ts)
connection_from low true ts = None
connection_from high true ts = None
connection_from (net i) true ts = Some (more i, ts)

unfoldable pub connection_at : List Said → Found (Step Identifier Term)
connection_at ts = do
  found ← term_at ts
  separator ← separator_at (codes ")") found.1
  connection_from found.0 separator.0 separator.1

-- outputs and an input with one more output in front
abbrev pub after_output : Identifier → Found (List Identifier × Term) → Found (List Identifier × Term)
after_output first found = option_map (λ r. ((first ∷ r.0.0, r.0.1), r.1)) found

-- the outputs and the one input, or the inputs, behind the first output
unfoldable pub connections_from : Bool → Identifier → List Said → Found (List Identifier × List Term)
connections_from true first ts = option_map (λ r. ((r.0.0, r.0.1 ∷ []), r.1)) (after_output first (repeated connection_at ts))
connections_from false first ts = option_map (λ r. ((first ∷ [], r.0), r.1)) (list_at term_at (codes ")") ts)

-- the outputs and inputs of an instance, behind its opening bracket
unfoldable pub connections_at : Kind → List Said → Found (List Identifier × List Term)
connections_at kind ts = do
  first ← name_at ts
  us ← mark_at (codes ",") first.1
  connections_from (has_one_input kind) first.0 us

unfoldable pub instance_at : Kind → List Said → Found Instance
instance_at kind ts = do
  us ← mark_at (codes "(") (label_at ts).1
  found ← connections_at kind us
  Some (record { label = (label_at ts).0; outputs = found.0.0; inputs = found.0.1 }, found.1)

unfoldable pub kind_of : List ℕ → Option Kind
kind_of text =
    if bytes_eq text (codes "and") then Some And
    else (if bytes_eq text (codes "nand") then Some Nand
    else (if bytes_eq text (codes "or") then Some Or
    else (if bytes_eq text (codes "nor") then Some Nor
    else (if bytes_eq text (codes "xor") then Some Xor
    else (if bytes_eq text (codes "xnor") then Some Xnor
    else (if bytes_eq text (codes "buf") then Some Buf
    else (if bytes_eq text (codes "not") then Some Not else None)))))))

-- an assignment
unfoldable pub assignment_at : List Said → Found Assignment
assignment_at ts = do
  name ← name_at ts
  us ← mark_at (codes "=") name.1
  value ← expression_at us
  Some (record { name = name.0; value = value.0 }, value.1)

-- the word that a statement begins with
unfoldable pub opening_of : List ℕ → Option Opening
opening_of text =
    if bytes_eq text (codes "input") then Some Input
    else (if bytes_eq text (codes "output") then Some Output
    else (if bytes_eq text (codes "wire") then Some Wire
    else (if bytes_eq text (codes "assign") then Some Assign
    else option_map Gate (kind_of text))))

unfoldable pub opening_at : List Said → Found Opening
opening_at [] = None
opening_at (t ∷ ts) = if is_word_kind t.kind then option_map (λ o. (o, ts)) (opening_of t.text) else None

-- the rest of a statement behind its first word
unfoldable pub statement_from : Opening → List Said → Found Statement
statement_from Input ts =
    option_map (λ r. (input (wire_at ts).0 r.0, r.1)) (list_at name_at (codes ";") (wire_at ts).1)
statement_from Output ts =
    option_map (λ r. (output (wire_at ts).0 r.0, r.1)) (list_at name_at (codes ";") (wire_at ts).1)
statement_from Wire ts = option_map (λ r. (wire r.0, r.1)) (list_at name_at (codes ";") ts)
statement_from (Gate kind) ts = option_map (λ r. (gates kind r.0, r.1)) (list_at (instance_at kind) (codes ";") ts)
statement_from Assign ts = option_map (λ r. (assign r.0, r.1)) (list_at assignment_at (codes ";") ts)

unfoldable pub statement_at : List Said → Found Statement
statement_at ts = do
  opening ← opening_at ts
  statement_from opening.0 opening.1

-- a statement, or the end of the module
abbrev pub item_from : List Said → Option (List Said) → Found (Step Statement (Unit {0}))
item_from ts None = option_map (λ r. (more r.0, r.1)) (statement_at ts)
item_from ts (Some us) = Some (last tt, us)

unfoldable pub item_at : List Said → Found (Step Statement (Unit {0}))
item_at ts = item_from ts (word_at (codes "endmodule") ts)

-- the statements up to the end of the module
unfoldable pub statements_at : List Said → Found (List Statement)
statements_at ts = option_map (λ r. (r.0.0, r.1)) (repeated item_at ts)

-- the direction before a port's name, if there is one
abbrev pub direction_or : List Said → Option (List Said) → Option (List Said) → Option (Direction × Bool) × List Said
direction_or ts (Some us) other = (Some (In, (wire_at us).0), (wire_at us).1)
direction_or ts None (Some us) = (Some (Out, (wire_at us).0), (wire_at us).1)
direction_or ts None None = (None, ts)

unfoldable pub direction_at : List Said → Option (Direction × Bool) × List Said
direction_at ts = direction_or ts (word_at (codes "input") ts) (word_at (codes "output") ts)

-- a port of a header with directions, and of one without
unfoldable pub directed_port_at : List Said → Found Port
directed_port_at ts = do
  name ← name_at (direction_at ts).1
  Some (record { direction = (direction_at ts).0; name = name.0 }, name.1)

unfoldable pub plain_port_at : List Said → Found Port
plain_port_at ts = option_map (λ r. (record { direction = None; name = r.0 }, r.1)) (name_at ts)

-- the ports up to the closing bracket
abbrev pub ports_by : Bool → List Said → Found (List Port)
ports_by true ts = list_at directed_port_at (codes ")") ts
ports_by false ts = list_at plain_port_at (codes ")") ts

unfoldable pub ports_at : List Said → Found (List Port)
ports_at ts = ports_by (is_directed (direction_at ts).0) ts

-- the header's ports, if there is an opening bracket
abbrev pub ports_from : List Said → Option (List Said) → Found (Option (List Port))
ports_from ts None = option_map (λ r. (Some r.0, r.1)) (ports_at ts)
ports_from ts (Some us) = Some (Some [], us)

abbrev pub header_from : List Said → Option (List Said) → Found (Option (List Port))
header_from ts None = Some (None, ts)
header_from ts (Some us) = ports_from us (mark_at (codes ")") us)

unfoldable pub header_at : List Said → Found (Option (List Port))
header_at ts = header_from ts (mark_at (codes "(") ts)

-- a whole file, with nothing behind it
abbrev pub if_whole : {X : Type 0} → X → List Said → Option X
if_whole x [] = Some x
if_whole x (t ∷ ts) = None

unfoldable pub file_at : List Said → Option File
file_at ts = do
  us ← word_at (codes "module") ts
  title ← name_at us
  header ← header_at title.1
  vs ← mark_at (codes ";") header.1
  statements ← statements_at vs
  if_whole (record { title = title.0; header = header.0; statements = statements.0 }) statements.1
