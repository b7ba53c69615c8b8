-- The numbers are right as far back as the gates so far reach.
use Rattle.eco_gates.proofs.Spreading.{IsSpreadFrom}
use Rattle.eco_gates.proofs.spread.spread_least.Given as goal

abbrev pub invariant-loop-place : goal.invariant-loop-place
invariant-loop-place l = IsSpreadFrom l.gates l.order l.initial.numbers l.place l.numbers
