use Rattle.std.proofs.Common.{◌≡◌, ◌++◌, take}
use Rattle.std.specs.List.{flat_map}
use Rattle.eco_meaning.specs.Circuit.{names}
use Rattle.eco_netlist.specs.Netlists.{named_gate}
use Rattle.eco_vwrite.specs.Written.{gate_line}
use Rattle.eco_vwrite.proofs.lines.push_each_gate.Given as goal

abbrev pub invariant-loop-gate : goal.invariant-loop-gate
invariant-loop-gate l =
    l.text.items ≡ l.initial.text.items ++ flat_map (λ gate. gate_line (named_gate (names l.netlist) gate)) (take l.gate-index l.gates)
