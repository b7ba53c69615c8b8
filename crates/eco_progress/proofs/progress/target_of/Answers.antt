-- The first target's base can be chosen.
use Rattle.std.proofs.Common.{◌≡◌, ◌<◌, ℕ, length, arith, sym, ap, subst}
use Rattle.eco_query.specs.Problem.{HasTargetNumber, ProblemValue}
use Rattle.eco_progress.proofs.StandingLaws.{first_number}
use Rattle.eco_progress.proofs.StepLaws.{first_next, ready_next}
use Rattle.eco_progress.proofs.progress.target_of.Goals as goal

pub of-requires-clause-number : goal.of-requires-clause-number
of-requires-clause-number g c =
    let some = c.implementation.ensures.problem.targets in
    subst (λ (p : ProblemValue). HasTargetNumber p.implementation 0) c.problem.ensures (some.count, some.counted, omega (arith, some.some))

pub of-requires-clause-ready : goal.of-requires-clause-ready
of-requires-clause-ready g c = ready_next c.args.engine.problem c.args.begun.now 0 c.base-paid.result.now c.requires.progress (sym (ap length c.requires.none)) c.base-paid.ensures.base

pub of-requires-clause-first : goal.of-requires-clause-first
of-requires-clause-first g c =
    let begun = c.args.begun.now in
    let number = subst (λ (p : ProblemValue). HasTargetNumber p.implementation (length begun.groups.items)) c.problem.ensures
    (first_number c.problem.result.now begun c.implementation.ensures.problem.targets c.requires.none) in
    first_next c.args.engine.problem begun 0 c.requires.progress number (sym (ap length c.requires.none))
