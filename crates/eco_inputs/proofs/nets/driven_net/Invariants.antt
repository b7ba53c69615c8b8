-- None of the gates that were looked at drives a net of this name.
use Rattle.std.proofs.Common.{◌≢◌, take}
use Rattle.std.specs.List.{All}
use Rattle.eco_meaning.specs.Circuit.{names}
use Rattle.eco_netlist.specs.Netlists.{name_at}
use Rattle.eco_inputs.proofs.nets.driven_net.Given as goal

abbrev pub invariant-loop-gate : goal.invariant-loop-gate
invariant-loop-gate l = All (λ gate. name_at (names l.f) gate.out.0 ≢ l.name) (take l.gate-index l.gates)
