-- The clauses that say that the outputs of two netlists differ.
use Rattle.std.specs.Prelude.{◌↔◌, ℕ, ◌+◌, List, [], ◌∷◌, map, length, Contains}
use Rattle.eco_meaning.specs.Circuit.{Circuit, NamedGate, names}
use Rattle.eco_trace.specs.declared.clause.Lit.{Lit}
use Rattle.eco_trace.specs.Clauses.{Clauses}
use Rattle.eco_clauses.specs.Listing.{constant, with_list, no_clauses}
use Rattle.eco_clauses.specs.Gates.{with_xor, with_gates}
use Rattle.eco_clauses.specs.Numbering.{new_literals}
use Rattle.eco_equality.specs.Numbering.{input_literal, left_literal, right_literal, net_variables}

-- the two netlists have the same inputs and the same outputs, as sets of names
pub record HaveSamePorts (left right : Circuit) : Type 0 where
  pub inputs : (name : List ℕ) → Contains left.inputs name ↔ Contains right.inputs name
  pub outputs : (name : List ℕ) → Contains left.outputs name ↔ Contains right.outputs name

-- the variable of the constant, those of the nets, and the clause that the constant is 1
abbrev pub with_nets : Circuit → Circuit → Clauses
with_nets left right = with_list (no_clauses (net_variables left right)) (constant ∷ [])

-- with the clauses of left's gates, and then those of right's
abbrev pub with_both : Circuit → Circuit → Clauses
with_both left right =
    with_gates (right_literal left right) (with_gates (left_literal left) (with_nets left right) left.gates) right.gates

-- for each literal of the first list a new variable, which is the exclusive or of it and the one in the second list
abbrev pub with_differences : Clauses → List Lit → List Lit → Clauses
with_differences c [] others = c
with_differences c (one ∷ ones) [] = c
with_differences c (one ∷ ones) (other ∷ others) = with_differences (with_xor c one other) ones others

-- the clauses whose models are the inputs at which an output of left and right differs: those of the gates, for each of
-- left's outputs a new variable that is 1 where the two outputs differ, and the clause of all these variables
abbrev pub equality_of : Circuit → Circuit → Clauses
equality_of left right =
    with_list
    (with_differences (with_both left right) (map (left_literal left) left.outputs) (map (right_literal left right) left.outputs))
    (new_literals (with_both left right).vars left.outputs)

-- the literals of left's inputs, in order
abbrev pub input_literals : Circuit → List Lit
input_literals left = map (input_literal left) left.inputs

-- how many inputs a netlist's gates have together
abbrev pub term_count : List NamedGate → ℕ
term_count [] = 0
term_count (g ∷ gates) = length g.terms + term_count gates

-- the size of a netlist: its nets and the inputs of its gates
abbrev pub size : Circuit → ℕ
size n = length (names n) + term_count n.gates
