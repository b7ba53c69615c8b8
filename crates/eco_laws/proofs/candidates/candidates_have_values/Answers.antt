use Rattle.eco_laws.proofs.Values.{candidates_have_values, agree_by_values}
use Rattle.eco_laws.proofs.candidates.candidates_have_values.Goals as goal

pub returns : goal.returns
returns c = record { values = candidates_have_values; agree = agree_by_values }
