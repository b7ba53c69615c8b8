-- The gates so far.
use Rattle.std.proofs.Common.{◌≡◌, ◌++◌, map, take}
use Rattle.eco_meaning.specs.Circuit.{names}
use Rattle.eco_netlist.specs.Netlists.{named_gate}
use Rattle.eco_cutting.specs.Cuts.{cut_gate}
use Rattle.eco_cutting.proofs.cutting.add_gates.Given as goal

abbrev pub invariant-loop-gate : goal.invariant-loop-gate
invariant-loop-gate l =
    l.draft ≡ record l.fn.draft { gates = l.fn.draft.gates ++ map (cut_gate l.cuts) (map (named_gate (names l.f)) (take l.gate-index l.gates)) }
