use Rattle.std.proofs.Common.{◌≡◌, take}
use Rattle.std.specs.Prelude.{fold}
use Rattle.std.specs.List.{flat_map}
use Rattle.eco_netlist.specs.Numbering.{with_net, gate_nets}
use Rattle.eco_netlist.proofs.numbering.add_gates.Given as goal

abbrev pub invariant-loop-gate : goal.invariant-loop-gate
invariant-loop-gate l = record {
  names : l.numbering.names ≡ l.fn.numbering.names;
  added : l.numbering.nets ≡ fold with_net l.fn.numbering.nets (flat_map gate_nets (take l.gate-index l.gates));
}
