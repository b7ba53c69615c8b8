-- What is found at the target that is turned to is found at the next one.
use Rattle.std.proofs.Common.{IfOk, subst}
use Rattle.eco_base.specs.Targets.{TargetValue, paid_of}
use Rattle.eco_query.specs.Problem.{ProblemValue}
use Rattle.eco_find.specs.Found.{IsFoundBy}
use Rattle.eco_progress.specs.ByWay.{IsFoundFor}
use Rattle.eco_progress.proofs.progress.next_base.Goals as goal

pub returns-clause-found : goal.returns-clause-found
returns-clause-found g c =
    let way = c.args.way in
    let at = c.in_ok-turn_to_next.ensures in
    subst (λ (p : ProblemValue). IfOk c.find.result (IsFoundFor way p c.args.progress.now)) at.same.same_problem
    (subst (λ (t : TargetValue). IfOk c.find.result (IsFoundBy way t.problem t.number t.patches (paid_of t))) at.stands c.find.ensures.found)
