use Rattle.eco_laws.proofs.TurnLemmas.{kept_is_greedy}
use Rattle.eco_laws.proofs.choice.kept_by_turns_is_greedy.Goals as goal

pub returns : goal.returns
returns c = kept_is_greedy
