-- The numbers are right as far as the gates so far reach.
use Rattle.eco_gates.proofs.Spreading.{IsSpreadTo}
use Rattle.eco_gates.proofs.spread.spread_greatest.Given as goal

abbrev pub invariant-loop-number : goal.invariant-loop-number
invariant-loop-number l = IsSpreadTo l.gates l.order l.initial.numbers l.number-index l.numbers
