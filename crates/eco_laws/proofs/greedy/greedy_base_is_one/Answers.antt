use Rattle.eco_laws.proofs.Bases.{one_greedy_base}
use Rattle.eco_laws.proofs.greedy.greedy_base_is_one.Goals as goal

pub returns : goal.returns
returns c = one_greedy_base
