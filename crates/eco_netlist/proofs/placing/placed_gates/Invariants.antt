use Rattle.std.proofs.Common.{◌≡◌, take, map, length}
use Rattle.eco_gates.specs.Gates.{IsWithin}
use Rattle.eco_netlist.specs.Numbering.{gate_at}
use Rattle.eco_netlist.proofs.placing.placed_gates.Given as goal

abbrev pub invariant-loop-gate : goal.invariant-loop-gate
invariant-loop-gate l = record {
  placed : map (gate_at l.numbering.nets) l.placed.items ≡ take l.gate-index l.gates;
  within : IsWithin (length l.numbering.nets) l.placed.items;
}
