-- The target's problem is the one that is given, and the greedy choice is what the way promises.
use Rattle.std.proofs.Common.{Option, IfSome, refl, subst}
use Rattle.eco_query.specs.Problem.{ProblemValue}
use Rattle.eco_find.specs.declared.ways.Way.TheVariants.{Greedy}
use Rattle.eco_progress.specs.declared.progress.Progress.{Progress}
use Rattle.eco_progress.specs.ByWay.{IsProgressBy}
use Rattle.eco_targets.proofs.Finishing.{made_in_way}
use Rattle.eco_targets.proofs.synthesise_heard.Goals as goal

pub returns-in_ok-finished-in-Ok-Some-clause-made : goal.returns-in_ok-finished-in-Ok-Some-clause-made
returns-in_ok-finished-in-Ok-Some-clause-made g c =
    let made = c.in_ok-finished-in-Ok-Some.field-0 in
    let functions = c.in-Ok-Some.functions in
    let by =
    subst (λ (problem : ProblemValue). IsProgressBy Greedy problem functions) c.in_ok-target.ensures.target.same_problem
    (subst (λ (found : Option Progress). IfSome found (IsProgressBy Greedy c.in_ok-target.field-0.target.problem)) c.in-Ok-Some.field-0-is c.in-Ok-Some.ensures.by) in
    (made_in_way Greedy c.args.problem.now functions made.patch made.out made.report c.in_ok-finished-in-Ok-Some.ensures by).frugal refl refl
