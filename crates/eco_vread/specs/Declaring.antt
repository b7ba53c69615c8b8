-- Declarations with more behind them.
use Rattle.std.specs.Prelude.{ℕ, ◌+◌, List, [], ◌∷◌, ◌++◌, map, reverse, Option, Some, None, option_and_then}
use Rattle.eco_meaning.specs.declared.kind.Kind.{Kind}
use Rattle.eco_meaning.specs.declared.kind.Kind.TheVariants.{Not}
use Rattle.eco_meaning.specs.declared.name.Operand.{Operand}
use Rattle.eco_meaning.specs.declared.name.Operand.TheVariants.{Named}
use Rattle.std.specs.List.{flat_map}
use Rattle.eco_meaning.specs.Circuit.{NamedGate}
use Rattle.eco_netlist.specs.Draft.{Declared}
use Rattle.eco_vread.specs.declared.declare.Section.{Section}
use Rattle.eco_vread.specs.declared.declare.Section.TheVariants.{Header, Inputs, Outputs, Wires}
use Rattle.eco_vread.specs.declared.operators.DrivenNets.{DrivenNets}
use Rattle.eco_vread.specs.declared.operators.Pending.{Pending}
use Rattle.eco_vread.specs.declared.tree.Direction.{Direction}
use Rattle.eco_vread.specs.declared.tree.Direction.TheVariants.{In, Out}
use Rattle.eco_vread.specs.declared.tree.Ident.{Ident}
use Rattle.eco_vread.specs.declared.tree.Terminal.{Terminal}
use Rattle.eco_vread.specs.Views.{identifier_of, term_of}
use Rattle.eco_vread.specs.Postfix.{Sign}
use Rattle.eco_vread.specs.Postfix.Sign.{operand, inversion, operation, brackets}
use Rattle.eco_vread.specs.Syntax.{Assignment, Statement, Port, name_of}
use Rattle.eco_vread.specs.Meaning.{operand_of, operator_kind, output_of, assignments_gates, header_names, is_in, is_out, ports_that, header_that, declared_inputs, declared_outputs, declared_wires, declared_gates, statements_gates, numbered_nets}

-- with these names behind those of one list
abbrev pub with_names : Section → Declared → List (List ℕ) → Declared
with_names Header d names = record d { header = d.header ++ names }
with_names Inputs d names = record d { inputs = d.inputs ++ names }
with_names Outputs d names = record d { outputs = d.outputs ++ names }
with_names Wires d names = record d { wires = d.wires ++ names }

abbrev pub with_gates : Declared → List NamedGate → Declared
with_gates d more = record d { gates = d.gates ++ more }

-- a gate for each output, each with the same inputs
abbrev pub gates_of : Kind → List Ident → List Terminal → List NamedGate
gates_of kind outputs inputs = map (λ out. record {
  kind = kind;
  out = name_of (identifier_of out);
  terms = map (λ t. operand_of (term_of t)) inputs;
}) outputs

-- the list of the names of a direction
abbrev pub section_of : Direction → Section
section_of In = Inputs
section_of Out = Outputs

-- with the directions of these ports, behind a port of the direction `before`
abbrev pub with_directions : Declared → Direction → List Port → Declared
with_directions d before ports = record d {
  inputs = d.inputs ++ ports_that is_in before ports;
  outputs = d.outputs ++ ports_that is_out before ports;
}

-- with what a header declares
abbrev pub with_header : Declared → Option (List Port) → Declared
with_header d header = record d {
  header = d.header ++ header_names header;
  inputs = d.inputs ++ header_that is_in header;
  outputs = d.outputs ++ header_that is_out header;
}

-- the net that the operator of a number drives
abbrev pub driven_by : DrivenNets → ℕ → List ℕ
driven_by nets number = output_of nets.prefix.bytes.now (name_of (identifier_of nets.name)) nets.last number

-- what is made of the signs so far: declarations with the gates of their operators, the operands that no operator
-- has taken yet, the last one first, and how many operators there are
pub record Work : Type 0 where
  pub declared : Declared
  pub operands : List Operand
  pub count : ℕ

-- with the next operator's gate, of this kind and with these inputs, in place of the operands that it takes
abbrev pub with_operator : (ℕ → List ℕ) → Kind → List Operand → List Operand → Work → Work
with_operator driven kind taken others w = record {
  declared = with_gates w.declared (record { kind = kind; out = driven (w.count + 1); terms = taken } ∷ []);
  operands = Named (driven (w.count + 1)) ∷ others;
  count = w.count + 1;
}

-- by the next sign; none where its operands are missing
abbrev pub inverted : (ℕ → List ℕ) → Work → List Operand → Option Work
inverted driven w [] = None
inverted driven w (a ∷ others) = Some (with_operator driven Not (a ∷ []) others w)

abbrev pub combined : (ℕ → List ℕ) → Kind → Work → List Operand → Option Work
combined driven kind w [] = None
combined driven kind w (b ∷ []) = None
combined driven kind w (b ∷ a ∷ others) = Some (with_operator driven kind (a ∷ b ∷ []) others w)

abbrev pub with_sign : (ℕ → List ℕ) → Sign → Work → Option Work
with_sign driven (operand t) w = Some (record w { operands = operand_of t ∷ w.operands })
with_sign driven inversion w = inverted driven w w.operands
with_sign driven (operation op) w = combined driven (operator_kind op) w w.operands
with_sign driven brackets w = Some w

-- by all signs
unfoldable pub with_signs : (ℕ → List ℕ) → List Sign → Work → Option Work
with_signs driven [] w = Some w
with_signs driven (sign ∷ signs) w = option_and_then (with_signs driven signs) (with_sign driven sign w)

-- the same of the code's values
abbrev pub work_of : Declared → Pending → Work
work_of d pending = record { declared = d; operands = reverse pending.operands.items; count = pending.count }

-- with the gates of these assignments
abbrev pub with_assignments : Declared → List ℕ → ℕ → List Assignment → Declared
with_assignments d prefix before list = with_gates d (assignments_gates prefix before list)

abbrev pub with_statement : Declared → List ℕ → ℕ → Statement → Declared
with_statement d prefix before statement = record d {
  inputs = d.inputs ++ declared_inputs statement;
  outputs = d.outputs ++ declared_outputs statement;
  wires = d.wires ++ declared_wires statement;
  gates = d.gates ++ declared_gates prefix before statement;
}

-- with what these statements declare
abbrev pub with_statements : Declared → List ℕ → ℕ → List Statement → Declared
with_statements d prefix before statements = record d {
  inputs = d.inputs ++ flat_map declared_inputs statements;
  outputs = d.outputs ++ flat_map declared_outputs statements;
  wires = d.wires ++ flat_map declared_wires statements;
  gates = d.gates ++ statements_gates prefix before statements;
}

-- how many nets the assignments of these statements number
abbrev pub all_numbered_nets : List Statement → ℕ
all_numbered_nets [] = 0
all_numbered_nets (s ∷ statements) = numbered_nets s + all_numbered_nets statements
