-- The table has the drivers so far.
use Rattle.eco_gates.proofs.Drivers.{AreDriversTo}
use Rattle.eco_gates.proofs.ordering.drivers_of.Given as goal

abbrev pub invariant-loop-number : goal.invariant-loop-number
invariant-loop-number l = AreDriversTo l.nets l.gates l.drivers.items l.number
