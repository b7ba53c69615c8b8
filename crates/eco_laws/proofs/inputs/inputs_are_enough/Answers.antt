use Rattle.eco_laws.proofs.InputLemmas.{inputs_are_candidates, inputs_suffice, candidates_suffice}
use Rattle.eco_laws.proofs.inputs.inputs_are_enough.Goals as goal

pub returns : goal.returns
returns c = record { candidates = inputs_are_candidates; inputs = inputs_suffice; all = candidates_suffice }
