-- The target's problem is the one that is given.
use Rattle.std.proofs.Common.{sym, subst}
use Rattle.eco_meaning.specs.Meaning.{IsRectifiable}
use Rattle.eco_query.specs.Problem.{ProblemValue}
use Rattle.eco_targets.proofs.synthesise_least.Goals as goal

pub cheapest-made-requires-clause-rectifiable : goal.cheapest-made-requires-clause-rectifiable
cheapest-made-requires-clause-rectifiable g c =
    subst (λ (problem : ProblemValue). IsRectifiable problem.implementation problem.goal) (sym c.in_ok-target.ensures.target.same_problem) c.in_ok-target.ensures.rectifiable
