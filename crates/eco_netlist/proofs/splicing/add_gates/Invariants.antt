use Rattle.std.proofs.Common.{◌≡◌, ◌++◌, map, take}
use Rattle.eco_netlist.specs.Numbering.{gate_at}
use Rattle.eco_netlist.proofs.splicing.add_gates.Given as goal

abbrev pub invariant-loop-gate : goal.invariant-loop-gate
invariant-loop-gate l = l.gates.items ≡ l.fn.gates.items ++ map (gate_at l.nets) (take l.gate-index l.added)
