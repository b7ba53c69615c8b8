-- None of the cuts so far is of the name.
use Rattle.std.proofs.Common.{map, take}
use Rattle.std.specs.List.{Contains}
use Rattle.eco_cutting.proofs.CutNames.{net_of}
use Rattle.eco_cutting.proofs.cutting.cut_of_net.Given as goal

abbrev pub invariant-loop-cut : goal.invariant-loop-cut
invariant-loop-cut l = Contains (map net_of (take l.cut-index l.cuts)) l.name → ⊥
