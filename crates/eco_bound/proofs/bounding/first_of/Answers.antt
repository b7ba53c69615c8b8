-- No signal is paid, and no target is driven.
use Rattle.std.proofs.Common.{[], subst, sym}
use Rattle.std.proofs.lemmas.Result.{IfOk-weaker}
use Rattle.eco_query.specs.Problem.{ProblemValue}
use Rattle.eco_base.specs.Targets.{TargetValue}
use Rattle.eco_bound.specs.Lower.{IsBeginning, IsFirst}
use Rattle.eco_bound.proofs.RaisingLaws.{ready}
use Rattle.eco_bound.proofs.bounding.first_of.Goals as goal

pub of-target-requires-clause-number : goal.of-target-requires-clause-number
of-target-requires-clause-number g c =
    let beginning = subst (λ (p : ProblemValue). IsBeginning p c.in-Ok.patch) c.problem.ensures c.in-Ok.ensures in
    beginning.number

pub of-target-requires-clause-ready : goal.of-target-requires-clause-ready
of-target-requires-clause-ready g c =
    let beginning = subst (λ (p : ProblemValue). IsBeginning p c.in-Ok.patch) c.problem.ensures c.in-Ok.ensures in
    ready c.args.engine.problem c.in-Ok.patch beginning
