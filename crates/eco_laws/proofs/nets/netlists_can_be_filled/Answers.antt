use Rattle.eco_laws.proofs.Filled.{can_be_filled}
use Rattle.eco_laws.proofs.Reaching.{takes_any_inputs, no_gates_take}
use Rattle.eco_laws.proofs.nets.netlists_can_be_filled.Goals as goal

pub returns : goal.returns
returns c = record { free = can_be_filled; inputs = takes_any_inputs; no_gates = no_gates_take }
