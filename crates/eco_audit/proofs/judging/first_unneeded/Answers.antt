-- The groups before the first that tells a signal which isn't needed tell none.
use Rattle.std.proofs.Common.{◌≡◌, Some, MatchOption, List, length, take, sym, ◌∙◌, ap, subst, arith}
use Rattle.std.specs.List.{All, slice_get}
use Rattle.eco_meaning.specs.Report.{BaseSignal, TargetGroup, PatchReport}
use Rattle.eco_audit.specs.Reported.{IsFirstWrongOf}
use Rattle.eco_audit.specs.Judging.{needs}
use Rattle.eco_audit.proofs.Groups.{all_reported, first_in_group, item_there, same_item, reported_more}
use Rattle.eco_audit.proofs.judging.first_unneeded.Goals as goal

pub first_unneeded_of-requires-clause-base : goal.first_unneeded_of-requires-clause-base
first_unneeded_of-requires-clause-base g c = λ group at.
    let reported = c.as_slice-groups.ensures.value ∙ ap (λ (q : PatchReport). q.groups) c.report.view_is in
    let here = subst (λ (l : List TargetGroup). slice_get l c.loop-number.number ≡ Some group) (sym reported) at in
    let one = same_item c.as_slice-groups.result.now c.loop-number.number c.index-groups-number.result group c.index-groups-number.is here in
    sym (c.as_slice-base.ensures.value ∙ ap (λ (g : TargetGroup). g.base) (c.group.view_is ∙ one))

pub returns-in-Some : goal.returns-in-Some
returns-in-Some g c =
    let group = c.index-groups-number.result in
    let number = c.loop-number.number in
    let says_it = needs c.args.solution.now (take number c.args.solution.now.report.now.groups) group in
    let reported = c.as_slice-groups.ensures.value ∙ ap (λ (q : PatchReport). q.groups) c.report.view_is in
    let at = subst (λ (l : List TargetGroup). slice_get l number ≡ Some group) reported (item_there c.as_slice-groups.result.now number group c.index-groups-number.is c.loop-number-test.true) in
    let base = c.as_slice-base.ensures.value ∙ ap (λ (g : TargetGroup). g.base) c.group.view_is in
    let wrong = subst (λ o. MatchOption o (All says_it c.as_slice-base.result.now) (IsFirstWrongOf says_it c.as_slice-base.result.now)) c.in-Some.is (c.in_ok-found.ensures group at) in
    first_in_group (needs c.args.solution.now) c.args.solution.now.report.now.groups number group c.in-Some.name at c.loop-number.invariant
    (subst (λ (l : List BaseSignal). IsFirstWrongOf says_it l c.in-Some.name) base wrong)

pub loop-number-preserved : goal.loop-number-preserved
loop-number-preserved g c =
    let group = c.index-groups-number.result in
    let number = c.loop-number.number in
    let says_it = needs c.args.solution.now (take number c.args.solution.now.report.now.groups) group in
    let reported = c.as_slice-groups.ensures.value ∙ ap (λ (q : PatchReport). q.groups) c.report.view_is in
    let at = subst (λ (l : List TargetGroup). slice_get l number ≡ Some group) reported (item_there c.as_slice-groups.result.now number group c.index-groups-number.is c.loop-number-test.true) in
    let base = c.as_slice-base.ensures.value ∙ ap (λ (g : TargetGroup). g.base) c.group.view_is in
    let all = subst (λ o. MatchOption o (All says_it c.as_slice-base.result.now) (IsFirstWrongOf says_it c.as_slice-base.result.now)) c.in_default.is (c.in_ok-found.ensures group at) in
    reported_more (needs c.args.solution.now) c.args.solution.now.report.now.groups number group at c.loop-number.invariant
    (subst (λ (l : List BaseSignal). All says_it l) base all)

pub returns : goal.returns
returns g c =
    let reported = c.as_slice-groups.ensures.value ∙ ap (λ (q : PatchReport). q.groups) c.report.view_is in
    all_reported (needs c.args.solution.now) c.args.solution.now.report.now.groups c.loop-number.number
    (omega (arith, ap length reported, c.loop-number-test.false)) c.loop-number.invariant
