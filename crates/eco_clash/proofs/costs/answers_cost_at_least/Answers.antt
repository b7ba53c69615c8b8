use Rattle.eco_clash.proofs.AnswerLaws.{answers_cost_at_least}
use Rattle.eco_clash.proofs.costs.answers_cost_at_least.Goals as goal

pub returns : goal.returns
returns c = answers_cost_at_least
