-- Nothing is known yet.
use Rattle.std.proofs.Common.{◌+◌, List, arith, rules, refl, sym, subst}
use Rattle.std.specs.Vec.{vec_capacity}
use Rattle.eco_trace.specs.declared.clause.Lit.{Lit}
use Rattle.eco_learn.specs.TakenLits.{AreKept}
use Rattle.eco_learn.proofs.TakenLaws.{kept_begun}
use Rattle.eco_learn.proofs.taken.Taken.new.Goals as goal

pub invariant_of-result : goal.invariant_of-result
invariant_of-result c =
    let room = vec_capacity c.in_ok-lits.lits in
    let values = c.in_ok-values.values.items in
    let places = c.in_ok-places.places.items in
    subst (λ (lits : List Lit). AreKept c.args.vars values places lits room) (sym c.in_ok-lits.ensures.items) (
    kept_begun c.args.vars (c.args.vars + 1) room values places refl (omega arith) (omega (arith, c.in_ok-lits.ensures.capacity)) (c.in_ok-values.ensures.items_if_clones_equal (search rules)) (omega (arith, c.in_ok-places.ensures.len, c.in_ok-places.places.ok.0)))
