-- The last of the others so far.
use Rattle.std.proofs.Common.{take}
use Rattle.eco_learn.specs.Marks.{IsLastOf}
use Rattle.eco_learn.proofs.asserting.last_other.Given as goal

abbrev pub invariant-loop-other : goal.invariant-loop-other
invariant-loop-other l = IsLastOf l.trail.lits (take l.other-index l.clause) l.lit l.last
