-- The marks are right as far as the gates so far reach.
use Rattle.eco_gates.proofs.Reaching.{IsReachedTo}
use Rattle.eco_gates.proofs.reach.fan_out.Given as goal

abbrev pub invariant-loop-number : goal.invariant-loop-number
invariant-loop-number l = IsReachedTo l.gates l.order l.nets l.from l.number-index l.marks.items
