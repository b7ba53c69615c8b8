-- The inputs of the parts so far are forced.
use Rattle.std.proofs.Common.{take}
use Rattle.std.specs.List.{All}
use Rattle.eco_audit.specs.Bounds.{IsForcedPartHere}
use Rattle.eco_audit.specs.Judging.{AtGroupOf}
use Rattle.eco_audit.proofs.bounding.are_forced_parts.Given as goal

abbrev pub invariant-loop-part : goal.invariant-loop-part
invariant-loop-part g l = AtGroupOf l.solution 0 (λ before group. All (IsForcedPartHere l.solution before group) (take l.part-index l.parts))
