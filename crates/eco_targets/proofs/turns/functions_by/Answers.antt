-- While there are turns left there is one more target, and after the last turn there is none.
use Rattle.std.proofs.Common.{◌≡◌, length, ◌∙◌, refl, sym, ap, subst, arith}
use Rattle.eco_base.specs.Targets.{TargetValue}
use Rattle.eco_query.specs.Problem.{HasTargetNumber, HasTargets, ProblemValue}
use Rattle.eco_progress.specs.Standing.{StandsAt}
use Rattle.eco_targets.proofs.Counting.{has_targets}
use Rattle.eco_targets.proofs.turns.functions_by.Goals as goal

pub advance-requires-clause-number : goal.advance-requires-clause-number
advance-requires-clause-number g c =
    let f = c.args.target.now.problem.implementation in
    let nets = c.targets-targets.result.now in
    let count = c.loop-turn.invariant.count in
    let same = ap (λ (t : TargetValue). t.problem) c.tell.ensures ∙ c.loop-turn.invariant.same.same_problem in
    let value = c.implementation.ensures.value ∙ ap (λ (problem : ProblemValue). problem.implementation) c.problem.ensures in
    subst (λ (problem : ProblemValue). HasTargetNumber problem.implementation (length c.loop-turn.progress.groups.items)) (sym same) (
      length nets,
      has_targets f c.implementation.result.now nets value c.targets-targets.ensures.named,
      omega (arith, count),
    )

pub advance-requires-clause-first : goal.advance-requires-clause-first
advance-requires-clause-first g c none = subst (StandsAt c.loop-turn.progress) (sym c.tell.ensures) (c.loop-turn.invariant.first none)

pub loop-turn-init : goal.loop-turn-init
loop-turn-init g c =
    let begun = c.requires.begun in
    record {
      same = record { same_problem = refl; same_limit = refl };
      progress = begun.progress;
      count = ap length begun.none;
      by = begun.by c.args.way;
      first = λ _. begun.stands;
    }

pub returns-clause-complete : goal.returns-clause-complete
returns-clause-complete g c =
    let f = c.args.target.now.problem.implementation in
    let nets = c.targets-targets.result.now in
    let count = c.loop-turn.invariant.count in
    let all : length nets ≡ length c.loop-turn.progress.groups.items = omega (arith, count) in
    let value = c.implementation.ensures.value ∙ ap (λ (problem : ProblemValue). problem.implementation) c.problem.ensures in
    record {
      stands = c.loop-turn.invariant.progress;
      all = subst (HasTargets f) all (has_targets f c.implementation.result.now nets value c.targets-targets.ensures.named);
    }
