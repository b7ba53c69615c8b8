-- From the place on nothing is seen.
use Rattle.std.proofs.Common.{◌≤◌}
use Rattle.eco_learn.specs.Marks.{AreUnseen}
use Rattle.eco_learn.proofs.marking.last_seen.Given as goal

abbrev pub invariant-loop-place : goal.invariant-loop-place
invariant-loop-place l = (l.place ≤ l.end) × AreUnseen l.lits l.marks l.place l.end

abbrev pub decreases-loop-place : goal.decreases-loop-place
decreases-loop-place l = l.place
