use Rattle.eco_functions.proofs.Smaller.{merging_adds_no_gate}
use Rattle.eco_functions.proofs.laws.no_more_gates.Goals as goal

pub returns : goal.returns
returns c = merging_adds_no_gate
