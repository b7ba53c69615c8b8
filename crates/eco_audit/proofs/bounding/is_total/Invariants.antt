-- What is left of the total.
use Rattle.std.proofs.Common.{◌≡◌, ◌+◌, take}
use Rattle.eco_meaning.specs.Bound.{amount_of}
use Rattle.eco_audit.proofs.bounding.is_total.Given as goal

abbrev pub invariant-loop-part : goal.invariant-loop-part
invariant-loop-part l = l.total ≡ amount_of (take l.part-index l.parts) + l.left
