-- What signals cost.
use Rattle.std.proofs.Common.{◌≡◌, ◌+◌, List, [], ◌∷◌, ◌++◌, arith}
use Rattle.eco_meaning.specs.Report.{BaseSignal, cost_of}

-- what two lists of signals cost together
pub cost_append : (first second : List BaseSignal) → cost_of (first ++ second) ≡ cost_of first + cost_of second
cost_append [] second = omega arith
cost_append (b ∷ first) second = omega (arith, cost_append first second)
