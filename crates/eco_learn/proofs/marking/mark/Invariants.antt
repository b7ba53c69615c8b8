-- The variables of the literals so far are in the set.
use Rattle.std.proofs.Common.{take}
use Rattle.eco_learn.specs.Marks.{HasGot}
use Rattle.eco_learn.proofs.marking.mark.Given as goal

abbrev pub invariant-loop-lit : goal.invariant-loop-lit
invariant-loop-lit l = HasGot l.initial.marks (take l.lit-index l.clause) l.marks
