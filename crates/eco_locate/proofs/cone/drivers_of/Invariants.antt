-- The table has an entry for each net, and those that are there are numbers of gates.
use Rattle.std.proofs.Common.{◌≡◌, length}
use Rattle.eco_gates.specs.Walk.{AreDriversBelow}
use Rattle.eco_locate.proofs.cone.drivers_of.Given as goal

abbrev pub invariant-loop-number : goal.invariant-loop-number
invariant-loop-number l = (length l.drivers.items ≡ l.nets) × AreDriversBelow (length l.gates) l.drivers.items
