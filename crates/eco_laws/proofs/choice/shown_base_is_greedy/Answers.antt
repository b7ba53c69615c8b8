use Rattle.eco_laws.proofs.Witnesses.{is_greedy, all_needed}
use Rattle.eco_laws.proofs.choice.shown_base_is_greedy.Goals as goal

pub returns : goal.returns
returns c = record { greedy = is_greedy; needed = all_needed }
