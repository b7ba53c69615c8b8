-- The groups before the first that tells a wrong signal tell none.
use Rattle.std.proofs.Common.{◌≡◌, ℕ, Some, MatchOption, List, length, take, drop, suc, get_or, sym, ◌∙◌, ap, subst, arith}
use Rattle.std.specs.List.{All, Contains, slice_get}
use Rattle.std.proofs.lemmas.List.Elements.{All-contains, All-contains_itself}
use Rattle.std.proofs.lemmas.Option.{slice_get_within}
use Rattle.eco_meaning.specs.Circuit.{Circuit, AreTargets}
use Rattle.eco_meaning.specs.Report.{BaseSignal, TargetGroup, PatchReport}
use Rattle.eco_query.specs.Problem.{ProblemValue}
use Rattle.eco_audit.specs.declared.checking.Check.{Check}
use Rattle.eco_audit.specs.declared.checking.Check.TheVariants as checks
use Rattle.eco_audit.specs.Reported.{IsFirstWrongOf, IsSaidOfAll, IsReportedCandidate}
use Rattle.eco_audit.specs.Checks.{CanBeChecked, IsCheckable, IsOfSomeTarget, says}
use Rattle.eco_audit.proofs.Groups.{all_reported, cut_at, first_in_group, item_there, number_of_target, reported_more, signal_reported}
use Rattle.eco_audit.proofs.checking.first_wrong.Goals as goal

-- a reported candidate is one but for the targets
some_target : (problem : ProblemValue) (r : PatchReport) (number : ℕ) (group : TargetGroup) (b : BaseSignal) → slice_get r.groups number ≡ Some group → IsSaidOfAll (IsReportedCandidate problem) r.groups → Contains group.base b → IsOfSomeTarget problem b.signal
some_target problem r number group b at all listed =
    let is = All-contains (IsReportedCandidate problem (take number r.groups) group) group.base b (all (take number r.groups) group (drop (suc number) r.groups) (cut_at r.groups number group at)) listed in
    record { signal = is.signal; weighted = is.weighted }

-- where a check can be made, it can be made of each signal that a group tells
checkable : (problem : ProblemValue) (p : Circuit) (r : PatchReport) (check : Check) (number : ℕ) (group : TargetGroup) (b : BaseSignal) → CanBeChecked problem p r check → slice_get r.groups number ≡ Some group → Contains group.base b → IsCheckable problem p check number b
checkable problem p r checks.Candidate number group b ready at listed = number_of_target problem.implementation r number ready (slice_get_within r.groups number group at)
checkable problem p r checks.Weight number group b ready at listed = (some_target problem r number group b at ready listed).signal
checkable problem p r checks.Reach number group b ready at listed = (
  subst (AreTargets problem.implementation) (sym ready.1.outputs) ready.0,
  subst (λ (l : List (List ℕ)). Contains l b.signal) (sym ready.1.inputs) (signal_reported r.groups number group b at listed),
  some_target problem r number group b at ready.2 listed,
)

pub first_wrong_of-requires : goal.first_wrong_of-requires
first_wrong_of-requires c = λ k d less.
    let group = c.index-groups-number.result in
    let number = c.loop-number.number in
    let reported = c.as_slice-groups.ensures.value ∙ ap (λ (q : PatchReport). q.groups) c.report.view_is in
    let at = subst (λ (l : List TargetGroup). slice_get l number ≡ Some group) reported (item_there c.as_slice-groups.result.now number group c.index-groups-number.is c.loop-number-test.true) in
    let base = c.as_slice-base.ensures.value ∙ ap (λ (g : TargetGroup). g.base) c.group.view_is in
    let b = get_or c.as_slice-base.result.now k d in
    checkable c.args.problem.now c.args.patch.now c.args.report.now c.args.check number group b c.requires at
    (subst (λ (l : List BaseSignal). Contains l b) base (All-contains_itself c.as_slice-base.result.now k d less))

pub returns-in-Some : goal.returns-in-Some
returns-in-Some c =
    let group = c.index-groups-number.result in
    let number = c.loop-number.number in
    let says_it = says c.args.check c.args.problem.now c.args.patch.now (take number c.args.report.now.groups) group in
    let reported = c.as_slice-groups.ensures.value ∙ ap (λ (q : PatchReport). q.groups) c.report.view_is in
    let at = subst (λ (l : List TargetGroup). slice_get l number ≡ Some group) reported (item_there c.as_slice-groups.result.now number group c.index-groups-number.is c.loop-number-test.true) in
    let base = c.as_slice-base.ensures.value ∙ ap (λ (g : TargetGroup). g.base) c.group.view_is in
    let wrong = subst (λ o. MatchOption o (All says_it c.as_slice-base.result.now) (IsFirstWrongOf says_it c.as_slice-base.result.now)) c.in-Some.is (c.in_ok-found.ensures c.args.report.now c.requires group at) in
    first_in_group (says c.args.check c.args.problem.now c.args.patch.now) c.args.report.now.groups number group c.in-Some.name at c.loop-number.invariant
    (subst (λ (l : List BaseSignal). IsFirstWrongOf says_it l c.in-Some.name) base wrong)

pub loop-number-preserved : goal.loop-number-preserved
loop-number-preserved c =
    let group = c.index-groups-number.result in
    let number = c.loop-number.number in
    let says_it = says c.args.check c.args.problem.now c.args.patch.now (take number c.args.report.now.groups) group in
    let reported = c.as_slice-groups.ensures.value ∙ ap (λ (q : PatchReport). q.groups) c.report.view_is in
    let at = subst (λ (l : List TargetGroup). slice_get l number ≡ Some group) reported (item_there c.as_slice-groups.result.now number group c.index-groups-number.is c.loop-number-test.true) in
    let base = c.as_slice-base.ensures.value ∙ ap (λ (g : TargetGroup). g.base) c.group.view_is in
    let all = subst (λ o. MatchOption o (All says_it c.as_slice-base.result.now) (IsFirstWrongOf says_it c.as_slice-base.result.now)) c.in_default.is (c.in_ok-found.ensures c.args.report.now c.requires group at) in
    reported_more (says c.args.check c.args.problem.now c.args.patch.now) c.args.report.now.groups number group at c.loop-number.invariant
    (subst (λ (l : List BaseSignal). All says_it l) base all)

pub returns : goal.returns
returns c =
    let reported = c.as_slice-groups.ensures.value ∙ ap (λ (q : PatchReport). q.groups) c.report.view_is in
    all_reported (says c.args.check c.args.problem.now c.args.patch.now) c.args.report.now.groups c.loop-number.number
    (omega (arith, ap length reported, c.loop-number-test.false)) c.loop-number.invariant
