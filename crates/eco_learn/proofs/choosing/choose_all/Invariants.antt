-- The literals of the variables so far are written.
use Rattle.std.proofs.Common.{take}
use Rattle.eco_learn.specs.Marks.{AreChosen}
use Rattle.eco_learn.proofs.choosing.choose_all.Given as goal

abbrev pub invariant-loop-lit : goal.invariant-loop-lit
invariant-loop-lit l = AreChosen l.trail.lits l.marks (take l.lit-index l.found) l.clause.items
