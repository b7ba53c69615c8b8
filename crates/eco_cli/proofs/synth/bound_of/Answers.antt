use Rattle.std.proofs.Common.{◌≡◌, ◌∙◌, ◌<◌, Some, arith, ap, subst, sym}
use Rattle.std.proofs.lemmas.Option.{slice_get-get_or}
use Rattle.std.proofs.lemmas.Result.{IfOk-weaker}
use Rattle.std.specs.Prelude.{List, length, slice_get}
use Rattle.eco_bound.specs.Lower.{AreForcedPairs, IsLowerBound}
use Rattle.eco_meaning.specs.Report.{PatchReport, TargetGroup}
use Rattle.eco_cli.proofs.BoundLaws.{checked_takes, forced_pairs, group_count}
use Rattle.eco_cli.proofs.synth.bound_of.Goals as goal

pub bounds-groups-0 : goal.bounds-groups-0
bounds-groups-0 c =
    let groups = c.as_slice-groups.ensures.value ∙ ap (λ (q : PatchReport). q.groups) c.report.view_is in
    let one = ap length groups ∙ group_count _ _ _ _ c.requires.meets c.requires.single in
    omega arith

pub bound-requires-clause-needed : goal.bound-requires-clause-needed
bound-requires-clause-needed c =
    let problem = c.args.problem.now in
    let slice = c.as_slice-groups.result.now in
    let groups = c.as_slice-groups.ensures.value ∙ ap (λ (q : PatchReport). q.groups) c.report.view_is in
    let one = ap length groups ∙ group_count _ _ _ _ c.requires.meets c.requires.single in
    let within : 0 < length slice = omega arith in
    let group = c.index-groups-0.result in
    let at : slice_get slice 0 ≡ Some group = slice_get-get_or slice 0 group within ∙ ap Some (sym c.index-groups-0.is) in
    let pairs = forced_pairs problem _ _ c.args.made.now.report group (checked_takes c.args.made.now.patch c.nets.ensures.checked)
    c.requires.meets c.requires.single (subst (λ (list : List TargetGroup). slice_get list 0 ≡ Some group) groups at) in
    subst (AreForcedPairs problem) (sym (c.as_slice.ensures.value ∙ ap (λ (g : TargetGroup). g.base) c.group.view_is)) pairs

pub returns-clause-bound : goal.returns-clause-bound
returns-clause-bound c =
    IfOk-weaker c.bound.result _ (IsLowerBound c.args.problem.now c.args.made.now.patch)
    (λ bound least. least c.args.made.now.patch (checked_takes c.args.made.now.patch c.nets.ensures.checked)) c.bound.ensures.bound
