-- The variables of nets.
use Rattle.std.specs.Prelude.{ℕ, ◌+◌, not, List, filter, length, if◌then◌else◌}
use Rattle.eco_meaning.specs.Names.{has}
use Rattle.eco_meaning.specs.Circuit.{Circuit, names}
use Rattle.eco_trace.specs.declared.clause.Lit.{Lit}
use Rattle.eco_clauses.specs.Numbering.{listed_literal}

-- the nets that are no inputs, in the order of their numbers
abbrev pub inner_nets : Circuit → List (List ℕ)
inner_nets n = filter (λ name. not (has n.inputs name)) (names n)

-- the literal of a net: inputs share the given ones, and the other nets have the variables behind the first `used` ones
abbrev pub net_literal : Circuit → (List ℕ → Lit) → ℕ → List ℕ → Lit
net_literal n shared used name = if has n.inputs name then shared name else listed_literal used (inner_nets n) name

-- left's inputs stand behind the constant
abbrev pub input_literal : Circuit → List ℕ → Lit
input_literal left name = listed_literal 1 left.inputs name

-- behind them left's other nets
abbrev pub left_literal : Circuit → List ℕ → Lit
left_literal left name = net_literal left (input_literal left) (1 + length left.inputs) name

-- behind them right's other nets; its inputs have the variables of left's inputs
abbrev pub right_literal : Circuit → Circuit → List ℕ → Lit
right_literal left right name =
    net_literal right (input_literal left) (1 + length left.inputs + length (inner_nets left)) name

-- how many variables the constant and the nets have
abbrev pub net_variables : Circuit → Circuit → ℕ
net_variables left right = 1 + length left.inputs + length (inner_nets left) + length (inner_nets right)
