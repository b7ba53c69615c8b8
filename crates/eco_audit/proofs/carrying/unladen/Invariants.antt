-- The carriers of the nets so far.
use Rattle.std.proofs.Common.{take}
use Rattle.eco_audit.specs.Carriers.{AreUnladen}
use Rattle.eco_audit.proofs.carrying.unladen.Given as goal

abbrev pub invariant-loop-net : goal.invariant-loop-net
invariant-loop-net l = AreUnladen l.problem (take l.net-index l.nets) l.carriers.items
