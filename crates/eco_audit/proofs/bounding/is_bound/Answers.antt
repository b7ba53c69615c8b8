-- There is one target, the parts force it, the total is their sum, and candidates carry them.
use Rattle.std.proofs.Common.{◌↔◌, [], List, length, sym, ◌∙◌, ap, subst, arith}
use Rattle.std.specs.List.{All, slice_get}
use Rattle.std.specs.Prelude.{IsTrue}
use Rattle.std.proofs.lemmas.Bool.{false≢true, both_ways}
use Rattle.std.proofs.lemmas.Result.{IfOk-weaker}
use Rattle.eco_meaning.specs.Bound.{Bound, amount_of}
use Rattle.eco_meaning.specs.Report.{PatchReport, TargetGroup}
use Rattle.eco_audit.specs.Bounds.{AreCarried, IsBoundHere, IsForcedPartHere}
use Rattle.eco_audit.proofs.Bounds.{bound_forces, bound_from, bound_is_single, forced_have_inputs, only_item}
use Rattle.eco_audit.proofs.bounding.is_bound.Goals as goal

pub returns-then-len-ne1 : goal.returns-then-len-ne1
returns-then-len-ne1 g c = (
  λ holds. absurd (false≢true holds),
  λ bound.
      let one = bound_is_single c.args.solution.now c.args.bound.now c.requires bound in
      let groups = ap length (ap (λ (r : PatchReport). r.groups) c.report.view_is) in
      absurd (c.if-len-ne1.true (omega (arith, one, groups, c.len.ensures, c.report.inside.groups.ok.0))),
)

pub returns-then-not-branch : goal.returns-then-not-branch
returns-then-not-branch g c = (
  λ holds. absurd (false≢true holds),
  λ bound.
      let s = c.args.solution.now in
      let (group, only) = only_item s.report.now.groups (bound_is_single s c.args.bound.now c.requires bound) in
      let parts = c.as_slice-parts.ensures.value ∙ ap (λ (b : Bound). b.parts) c.bound.view_is in
      let forced = subst (All (IsForcedPartHere s [] group)) (sym parts) (bound_forces s c.requires group only c.args.bound.now bound) in
      absurd (both_ways c.in_ok-are_forced_parts.field-0 c.if-not-branch.true
      ((c.in_ok-are_forced_parts.ensures group (ap (λ (l : List TargetGroup). slice_get l 0) only)).1 forced)),
)

pub are_carried-requires-clause-inputs : goal.are_carried-requires-clause-inputs
are_carried-requires-clause-inputs g c =
    let s = c.args.solution.now in
    let groups = ap length (ap (λ (r : PatchReport). r.groups) c.report.view_is) in
    let (group, only) = only_item s.report.now.groups (omega (arith, groups, c.if-len-ne1.false, c.len.ensures, c.report.inside.groups.ok.0)) in
    forced_have_inputs s group c.as_slice-parts.result.now
    ((c.in_ok-are_forced_parts.ensures group (ap (λ (l : List TargetGroup). slice_get l 0) only)).0 c.if-not-branch.false)

pub returns : goal.returns
returns g c =
    let s = c.args.solution.now in
    let told = c.args.bound.now in
    let groups = ap length (ap (λ (r : PatchReport). r.groups) c.report.view_is) in
    let (group, only) = only_item s.report.now.groups (omega (arith, groups, c.if-len-ne1.false, c.len.ensures, c.report.inside.groups.ok.0)) in
    let parts = c.as_slice-parts.ensures.value ∙ ap (λ (b : Bound). b.parts) c.bound.view_is in
    let total = sym (ap (λ (b : Bound). b.total) c.bound.view_is) ∙ c.is_total.ensures.0 c.if-not-is_total.false ∙ ap amount_of parts in
    let forced = subst (All (IsForcedPartHere s [] group)) parts
    ((c.in_ok-are_forced_parts.ensures group (ap (λ (l : List TargetGroup). slice_get l 0) only)).0 c.if-not-branch.false) in
    IfOk-weaker c.are_carried.result (λ carried. IsTrue carried ↔ AreCarried s c.as_slice-parts.result.now) (λ holds. IsTrue holds ↔ IsBoundHere s told)
    (λ carried is. (
      λ holds. bound_from s c.requires group only told total forced (subst (AreCarried s) parts (is.0 holds)),
      λ bound. is.1 (subst (AreCarried s) (sym parts) bound.1.carried),
    ))
    c.are_carried.ensures
