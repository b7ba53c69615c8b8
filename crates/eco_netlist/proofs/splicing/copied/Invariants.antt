use Rattle.std.proofs.Common.{◌≡◌, take}
use Rattle.eco_netlist.proofs.splicing.copied.Given as goal

abbrev pub invariant-loop-gate : goal.invariant-loop-gate
invariant-loop-gate l = l.same.items ≡ take l.gate-index l.gates
