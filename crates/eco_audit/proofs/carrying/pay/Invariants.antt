-- The carriers so far have paid.
use Rattle.eco_audit.proofs.Carriers.{HavePaid}
use Rattle.eco_audit.proofs.carrying.pay.Given as goal

abbrev pub invariant-loop-place : goal.invariant-loop-place
invariant-loop-place l = HavePaid l.ones l.zeros l.amount l.initial.carriers.items l.carriers.items l.place
