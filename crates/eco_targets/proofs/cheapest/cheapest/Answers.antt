-- The first run leaves the target that of its problem.
use Rattle.std.proofs.Common.{sym, subst}
use Rattle.eco_meaning.specs.Meaning.{IsRectifiable}
use Rattle.eco_query.specs.Problem.{ProblemValue}
use Rattle.eco_targets.proofs.cheapest.cheapest.Goals as goal

pub made_instead-requires-clause-rectifiable : goal.made_instead-requires-clause-rectifiable
made_instead-requires-clause-rectifiable g c =
    subst (λ (problem : ProblemValue). IsRectifiable problem.implementation problem.goal) (sym c.made_by.ensures.same.same_problem) c.requires.rectifiable
