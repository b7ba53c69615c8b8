-- The two maps agree on the other signals exactly where the two inputs do.
use Rattle.std.proofs.Common.{◌≡◌, ◌↔◌, ◌+◌, Bor, true, false, List, suc, map, take, sym, ◌∙◌, ap, subst, arith}
use Rattle.std.specs.Prelude.{IsTrue}
use Rattle.std.proofs.lemmas.Bool.{false≢true, both_ways}
use Rattle.std.proofs.lemmas.Result.{IfOk-weaker}
use Rattle.eco_meaning.specs.Report.{BaseSignal, TargetGroup, PatchReport, base_in}
use Rattle.eco_audit.specs.Judging.{AreFilled, AtGroupOf, IsForcedHere, ShowNeed}
use Rattle.eco_audit.proofs.Alike.{reported_alike, reported_names}
use Rattle.eco_audit.proofs.judging.shows_need.Goals as goal

pub returns : goal.returns
returns g c = λ group at.
    let s = c.args.solution.now in
    let number = c.args.number in
    let reported = c.as_slice-groups.ensures.value ∙ ap (λ (q : PatchReport). q.groups) c.report.view_is in
    let up : number + 1 ≡ suc number = omega arith in
    let named = reported_names (λ (b : Bor BaseSignal). b.now) c.as_slice.result.now (take (suc number) s.report.now.groups)
    (ap (map (λ (b : Bor BaseSignal). b.now)) c.as_slice.ensures.value ∙ c.in_ok-base.ensures ∙ ap (λ (l : List TargetGroup). base_in (take (number + 1) l)) reported ∙ ap (λ n. base_in (take n s.report.now.groups)) up) in
    let both = reported_alike s number group c.args.name.now c.args.force1.now c.args.force0.now c.as_slice-2.result.now c.as_slice-3.result.now
    (map (λ (b : Bor BaseSignal). b.now.signal) c.as_slice.result.now) c.are_alike-alike.result c.requires.judged at
    (subst (AreFilled s c.args.force1.now) (sym c.as_slice-2.ensures.value) c.in_ok-ones.ensures) (subst (AreFilled s c.args.force0.now) (sym c.as_slice-3.ensures.value) c.in_ok-zeros.ensures)
    named c.are_alike-alike.ensures in
    (λ holds. absurd (false≢true holds), λ conflict. absurd (both_ways c.are_alike-alike.result c.if-alike.false (both.1 conflict.alike)))

pub returns-then-alike : goal.returns-then-alike
returns-then-alike g c =
    let s = c.args.solution.now in
    let number = c.args.number in
    IfOk-weaker c.are_forced.result (λ forced. AtGroupOf s number (λ before group. IsTrue forced ↔ (IsForcedHere s c.args.force1.now true before group × IsForcedHere s c.args.force0.now false before group)))
    (λ needed. AtGroupOf s number (λ before group. IsTrue needed ↔ ShowNeed s c.args.name.now c.args.force1.now c.args.force0.now before group))
    (λ forced is group at.
    let reported = c.as_slice-groups.ensures.value ∙ ap (λ (q : PatchReport). q.groups) c.report.view_is in
    let up : number + 1 ≡ suc number = omega arith in
    let named = reported_names (λ (b : Bor BaseSignal). b.now) c.as_slice.result.now (take (suc number) s.report.now.groups)
    (ap (map (λ (b : Bor BaseSignal). b.now)) c.as_slice.ensures.value ∙ c.in_ok-base.ensures ∙ ap (λ (l : List TargetGroup). base_in (take (number + 1) l)) reported ∙ ap (λ n. base_in (take n s.report.now.groups)) up) in
    let both = reported_alike s number group c.args.name.now c.args.force1.now c.args.force0.now c.as_slice-2.result.now c.as_slice-3.result.now
    (map (λ (b : Bor BaseSignal). b.now.signal) c.as_slice.result.now) c.are_alike-alike.result c.requires.judged at
    (subst (AreFilled s c.args.force1.now) (sym c.as_slice-2.ensures.value) c.in_ok-ones.ensures) (subst (AreFilled s c.args.force0.now) (sym c.as_slice-3.ensures.value) c.in_ok-zeros.ensures)
    named c.are_alike-alike.ensures in
    (λ holds. let two = (is group at).0 holds in record { one = two.0; zero = two.1; alike = both.0 c.if-alike.true }, λ conflict. (is group at).1 (conflict.one, conflict.zero)))
    c.are_forced.ensures
