use Rattle.eco_laws.proofs.AskedLemmas.{none_missed, none_separated}
use Rattle.eco_laws.proofs.asked.no_answer_is_enough.Goals as goal

pub returns : goal.returns
returns c = record { missed = none_missed; separated = none_separated }
