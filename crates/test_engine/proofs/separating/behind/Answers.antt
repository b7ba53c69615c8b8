-- There are more targets than the number, and all but these and one come behind.
use Rattle.std.proofs.Common.{◌∷◌, ◌++◌, arith, subst}
use Rattle.std.proofs.lemmas.List.{length-append}
use Rattle.eco_meaning.specs.Circuit.{Circuit, names, AreTargets}
use Rattle.eco_netlist.specs.Netlists.{names_at}
use Rattle.eco_pose.proofs.SideLaws.{more_than}
use Rattle.test_engine.proofs.TargetCounts.{target_count}
use Rattle.test_engine.proofs.separating.behind.Goals as goal

pub overflow_sub-result : goal.overflow_sub-result
overflow_sub-result c =
    let targets = c.targets.result.now in
    let named = subst (λ (f : Circuit). AreTargets f (names_at (names f) targets)) c.implementation.ensures.value c.targets.ensures.named in
    omega (arith, more_than c.args.problem.now.implementation c.args.target targets c.requires named)

pub overflow_sub-result-2 : goal.overflow_sub-result-2
overflow_sub-result-2 c =
    let targets = c.targets.result.now in
    let named = subst (λ (f : Circuit). AreTargets f (names_at (names f) targets)) c.implementation.ensures.value c.targets.ensures.named in
    omega (arith, more_than c.args.problem.now.implementation c.args.target targets c.requires named)

pub returns : goal.returns
returns c before target behind are len =
    let targets = c.targets.result.now in
    let named = subst (λ (f : Circuit). AreTargets f (names_at (names f) targets)) c.implementation.ensures.value c.targets.ensures.named in
    omega (arith, target_count c.args.problem.now.implementation targets (before ++ target ∷ behind) named are, length-append before (target ∷ behind), len)
