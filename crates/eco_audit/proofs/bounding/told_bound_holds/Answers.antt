-- The report tells this bound.
use Rattle.std.proofs.Common.{◌≡◌, ◌↔◌, IfOk, Some, sym, ◌∙◌, ap, subst}
use Rattle.std.specs.Prelude.{IsTrue, IfSome}
use Rattle.eco_meaning.specs.Report.{PatchReport}
use Rattle.eco_audit.specs.Bounds.{IsBoundHere}
use Rattle.eco_audit.proofs.bounding.told_bound_holds.Goals as goal

pub returns-in-Some : goal.returns-in-Some
returns-in-Some g c =
    let s = c.args.solution.now in
    let told : s.report.now.bound ≡ Some c.in-Some.bound = sym (ap (λ (r : PatchReport). r.bound) c.report.view_is) ∙ c.in-Some.is in
    subst (λ o. IfOk c.is_bound.result (λ holds. IsTrue holds ↔ IfSome o (IsBoundHere s))) (sym told) c.is_bound.ensures
