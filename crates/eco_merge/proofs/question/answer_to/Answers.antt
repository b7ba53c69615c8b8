-- The verdict was found within the limit.
use Rattle.eco_merge.proofs.question.answer_to.Goals as goal

pub returns-in-Ok : goal.returns-in-Ok
returns-in-Ok g c = c.decide.ensures c.args.limit c.in-Ok.ensures
