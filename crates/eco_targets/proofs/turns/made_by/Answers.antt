-- What is made of functions for all targets is what the way makes.
use Rattle.std.proofs.Common.{Option, IfSome, subst}
use Rattle.eco_query.specs.Problem.{ProblemValue}
use Rattle.eco_progress.specs.declared.progress.Progress.{Progress}
use Rattle.eco_progress.specs.ByWay.{IsProgressBy}
use Rattle.eco_targets.specs.Finished.{IsFinished}
use Rattle.eco_targets.proofs.Finishing.{made_in_way}
use Rattle.eco_targets.proofs.turns.made_by.Goals as goal

pub returns-in_ok-finished-in-Some-clause-made : goal.returns-in_ok-finished-in-Some-clause-made
returns-in_ok-finished-in-Some-clause-made g c =
    let problem = c.args.target.now.problem in
    let progress = c.in-Some.progress in
    let made = c.in_ok-finished-in-Some.field-0 in
    made_in_way c.args.way problem progress made.patch made.out made.report
    (subst (λ (p : ProblemValue). IsFinished p progress made.patch made.out made.report) c.problem-problem.ensures c.in_ok-finished-in-Some.ensures)
    (subst (λ (found : Option Progress). IfSome found (IsProgressBy c.args.way problem)) c.in-Some.is c.in_ok-progress.ensures.by)
