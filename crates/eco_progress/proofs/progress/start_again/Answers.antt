-- A first target comes next, and its problem stays what it was.
use Rattle.std.proofs.Common.{length, sym, ◌∙◌, subst}
use Rattle.eco_query.specs.Problem.{HasTargetNumber, ProblemValue}
use Rattle.eco_progress.proofs.StandingLaws.{begun_at, first_number}
use Rattle.eco_progress.proofs.progress.start_again.Goals as goal

pub turn_to-requires-clause-number : goal.turn_to-requires-clause-number
turn_to-requires-clause-number g c =
    let begun = c.in_ok-begun.begun in
    subst (λ (p : ProblemValue). HasTargetNumber p.implementation (length begun.groups.items)) c.problem-problem.ensures
    (first_number c.problem-problem.result.now begun c.implementation.ensures.problem.targets c.in_ok-begun.ensures.none)

pub returns-in-Ok-clause-begun : goal.returns-in-Ok-clause-begun
returns-in-Ok-clause-begun g c =
    let begun = c.in_ok-begun.ensures in
    begun_at c.problem-problem.result.now c.turn_to.new.target c.in_ok-begun.begun (c.in-Ok.ensures.same.same_problem ∙ sym c.problem-problem.ensures) begun.progress begun.none begun.by c.in-Ok.ensures.stands
