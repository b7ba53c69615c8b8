use Rattle.eco_laws.proofs.AskedLemmas.{missed_is_wrong, earlier_have_values, among_is_forced, separated_is_conflict}
use Rattle.eco_laws.proofs.asked.unfixed_answer_stands.Goals as goal

pub returns : goal.returns
returns c = record { wrong = missed_is_wrong; values = earlier_have_values; forced = among_is_forced; conflict = separated_is_conflict }
