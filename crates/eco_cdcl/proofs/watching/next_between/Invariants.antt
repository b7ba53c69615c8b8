-- The literals so far are false, but perhaps the one that is kept.
use Rattle.eco_cdcl.specs.Steps.{AreFalseBetween}
use Rattle.eco_cdcl.proofs.watching.next_between.Given as goal

abbrev pub invariant-loop-place : goal.invariant-loop-place
invariant-loop-place l = AreFalseBetween l.trail.lits l.clause l.other l.start l.place
