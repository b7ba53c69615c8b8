use Rattle.eco_splice.specs.Tables.{AreMarked}
use Rattle.eco_splice.proofs.readiness.mark_targets.Given as goal

abbrev pub invariant-loop-place : goal.invariant-loop-place
invariant-loop-place l = AreMarked l.roots l.lines l.place l.driven.items
