-- The base is found for the engine's problem, and keeps what the way promises.
use Rattle.std.proofs.Common.{Option, subst, sym}
use Rattle.eco_query.specs.Problem.{ProblemValue}
use Rattle.eco_find.specs.declared.ways.Found.{Found}
use Rattle.eco_progress.specs.Extended.{IsChosenFor}
use Rattle.eco_progress.specs.ByWay.{IsBaseFor, IsFoundFor, IsProgressBy}
use Rattle.eco_progress.proofs.progress.advance.Goals as goal

pub extended_by-more-requires-clause-base : goal.extended_by-more-requires-clause-base
extended_by-more-requires-clause-base g c =
    let problem = c.args.target.now.problem in
    let progress = c.args.progress in
    let base : IsBaseFor c.args.way problem progress c.in-Ok-Some.found =
    subst (λ (found : Option Found). IsFoundFor c.args.way problem progress found) c.in-Ok-Some.field-0-is c.in-Ok-Some.ensures.found in
    subst (λ (p : ProblemValue). IsChosenFor p progress c.in-Ok-Some.found.chosen) (sym c.in-Ok-Some.ensures.same.same_problem) base.base

pub returns-in-Ok-Some-clause-by : goal.returns-in-Ok-Some-clause-by
returns-in-Ok-Some-clause-by g c old =
    let problem = c.args.target.now.problem in
    let way = c.args.way in
    let progress = c.args.progress in
    let base : IsBaseFor way problem progress c.in-Ok-Some.found =
    subst (λ (found : Option Found). IsFoundFor way problem progress found) c.in-Ok-Some.field-0-is c.in-Ok-Some.ensures.found in
    let more = c.in_ok-more-in-Ok-Some.field-0 in
    subst (λ (p : ProblemValue). IsBaseFor way p progress c.in-Ok-Some.found → IsProgressBy way p progress → IsProgressBy way p more) c.in-Ok-Some.ensures.same.same_problem
    (c.in_ok-more-in-Ok-Some.ensures.by way) base old
