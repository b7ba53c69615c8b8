use Rattle.std.proofs.Common.{◌≡◌, length}
use Rattle.eco_vread.specs.Expressions.{joined}
use Rattle.eco_vread.specs.Kept.{stack_of, signs_of}
use Rattle.eco_vread.proofs.expression.Reading.join.Given as goal

-- what is left to be done gives the same place
abbrev pub invariant-loop-operator : goal.invariant-loop-operator
invariant-loop-operator l =
    joined l.least (stack_of l.self) (signs_of l.self) ≡ joined l.least (stack_of l.fn.self) (signs_of l.fn.self)

abbrev pub decreases-loop-operator : goal.decreases-loop-operator
decreases-loop-operator l = length (stack_of l.self)
