use Rattle.std.proofs.Common.{◌≡◌, length}
use Rattle.eco_vread.specs.Expressions.{reduced}
use Rattle.eco_vread.specs.Kept.{stack_of, signs_of}
use Rattle.eco_vread.proofs.expression.Reading.reduce.Given as goal

-- what is left to be done gives the same place
abbrev pub invariant-loop-self : goal.invariant-loop-self
invariant-loop-self l = reduced (stack_of l.self) (signs_of l.self) ≡ reduced (stack_of l.fn.self) (signs_of l.fn.self)

abbrev pub decreases-loop-self : goal.decreases-loop-self
decreases-loop-self l = length (stack_of l.self)
