-- The gates so far have their values.
use Rattle.eco_gates.proofs.Running.{IsRunTo}
use Rattle.eco_gates.proofs.values.fill.Given as goal

abbrev pub invariant-loop-number : goal.invariant-loop-number
invariant-loop-number l = IsRunTo l.gates l.order l.initial.values l.number-index l.values
