-- The target's problem is the engine's.
use Rattle.std.proofs.Common.{sym, ◌∙◌}
use Rattle.eco_progress.proofs.StandingLaws.{begun_at}
use Rattle.eco_progress.proofs.progress.start.Goals as goal

pub returns-in-Ok-target_of-clause-begun : goal.returns-in-Ok-target_of-clause-begun
returns-in-Ok-target_of-clause-begun g c =
    let begun = c.in-Ok.ensures in
    let at = c.in-Ok-target_of.ensures in
    begun_at c.problem.result.now c.in-Ok-target_of.target c.in-Ok.begun (at.target.same_problem ∙ sym c.problem.ensures) begun.progress begun.none begun.by at.stands
