-- The cuts so far.
use Rattle.std.proofs.Common.{◌≡◌, ◌++◌, map, take}
use Rattle.eco_cutting.proofs.CutNames.{target_of}
use Rattle.eco_cutting.proofs.cutting.add_targets.Given as goal

abbrev pub invariant-loop-cut : goal.invariant-loop-cut
invariant-loop-cut l = l.draft ≡ record l.fn.draft { wires = l.fn.draft.wires ++ map target_of (take l.cut-index l.cuts) }
