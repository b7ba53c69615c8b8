-- The greedy choice is a base.
use Rattle.std.proofs.lemmas.Result.{IfOk-weaker}
use Rattle.eco_least.specs.Weighed.{IsBase, IsGreedyChoice}
use Rattle.eco_least.proofs.AccountLaws.{greedy_base}
use Rattle.eco_least.proofs.choosing.greedy_at.Goals as goal

pub returns-clause-base : goal.returns-clause-base
returns-clause-base g c =
    let t = c.args.target.now in
    IfOk-weaker c.choose.result (IsGreedyChoice t) (IsBase t) (greedy_base t) c.choose.ensures.chosen
