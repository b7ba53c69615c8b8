-- The target's name, and its signals.
use Rattle.std.proofs.Common.{◌<◌, ℕ, List, ◌∷◌, ◌++◌, length, sym, ◌∙◌, ap, subst, arith, rules}
use Rattle.eco_meaning.specs.Circuit.{Circuit, AreTargets}
use Rattle.eco_meaning.specs.Report.{BaseSignal, TargetGroup}
use Rattle.eco_pose.proofs.SideLaws.{target_at}
use Rattle.eco_progress.proofs.TargetLaws.{target_within, target_named}
use Rattle.eco_progress.proofs.reporting.group_of.Goals as goal

pub bounds-targets-i : goal.bounds-targets-i
bounds-targets-i c =
    let f = c.implementation-f.result.now in
    let (before, target, behind, are, len) = target_at c.args.problem.now.implementation c.args.i c.requires.number in
    let here = subst (λ (g : Circuit). AreTargets g (before ++ target ∷ behind)) (sym c.implementation-f.ensures.value) are in
    let within : c.args.i < length c.targets.result.now = omega (arith, len, target_within f c.targets.result.now before target behind c.targets.ensures.named here) in
    within

pub offset_bounds-targets-i : goal.offset_bounds-targets-i
offset_bounds-targets-i c =
    let f = c.implementation-f.result.now in
    let (before, target, behind, are, len) = target_at c.args.problem.now.implementation c.args.i c.requires.number in
    let here = subst (λ (g : Circuit). AreTargets g (before ++ target ∷ behind)) (sym c.implementation-f.ensures.value) are in
    let within : c.args.i < length c.targets.result.now = omega (arith, len, target_within f c.targets.result.now before target behind c.targets.ensures.named here) in
    search (rules, within)

pub returns : goal.returns
returns c before target behind are len =
    let f = c.implementation-f.result.now in
    let base = c.in_ok-base.base.items in
    let here = subst (λ (g : Circuit). AreTargets g (before ++ target ∷ behind)) (sym c.implementation-f.ensures.value) are in
    let named = c.in_ok-target.ensures.same ∙ target_named f c.targets.result.now before target behind c.targets.ensures.named here c.args.i _ c.name_of.result.now len c.name_of.ensures in
    ap (λ (n : List ℕ). let group : TargetGroup = record { target = n; base = base } in group) named
    ∙ ap (λ (l : List BaseSignal). let group : TargetGroup = record { target = target; base = l } in group) c.in_ok-base.ensures
