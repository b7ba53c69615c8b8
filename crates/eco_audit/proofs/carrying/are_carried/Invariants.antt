-- The carriers carry the parts so far.
use Rattle.std.proofs.Common.{take}
use Rattle.eco_audit.specs.Carriers.{AreCarriers}
use Rattle.eco_audit.proofs.carrying.are_carried.Given as goal

abbrev pub invariant-loop-part : goal.invariant-loop-part
invariant-loop-part l = AreCarriers l.solution (take l.part-index l.parts) l.carriers.items
