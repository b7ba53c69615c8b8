-- Both inputs force the target.
use Rattle.std.proofs.Common.{true, false, ◌↔◌, IfOk, subst}
use Rattle.std.specs.Prelude.{IsTrue}
use Rattle.std.proofs.lemmas.Result.{IfOk-weaker}
use Rattle.eco_meaning.specs.Bound.{Part}
use Rattle.eco_audit.specs.Bounds.{IsForcedPartHere}
use Rattle.eco_audit.specs.Judging.{AtGroupOf, IsForcedHere}
use Rattle.eco_audit.proofs.bounding.forces_both.Goals as goal

pub returns : goal.returns
returns g c =
    let s = c.args.solution.now in
    let part = c.args.part.now in
    IfOk-weaker c.are_forced.result (λ forced. AtGroupOf s 0 (λ before group. IsTrue forced ↔ (IsForcedHere s part.force1 true before group × IsForcedHere s part.force0 false before group)))
    (λ forced. AtGroupOf s 0 (λ before group. IsTrue forced ↔ IsForcedPartHere s before group part))
    (λ forced is group at.
    let both = is group at in
    (λ holds. let two = both.0 holds in record { one = two.0; zero = two.1 }, λ forces. both.1 (forces.one, forces.zero)))
    (subst (λ (q : Part). IfOk c.are_forced.result (λ forced. AtGroupOf s 0 (λ before group. IsTrue forced ↔ (IsForcedHere s q.force1 true before group × IsForcedHere s q.force0 false before group))))
    c.part.view_is c.are_forced.ensures)
