-- Where a variable has no value it is open; where each has one, all are known.
use Rattle.std.proofs.Common.{◌≡◌, List, Option, Some, None, Bool, slice_get, subst}
use Rattle.std.specs.Vec.{vec_capacity}
use Rattle.eco_learn.specs.TakenLits.{Literals, HasNoneOpen}
use Rattle.eco_learn.specs.Trails.{IsOpenVar, IsWhole}
use Rattle.eco_learn.proofs.TakenLaws.{open_var, whole_lits}
use Rattle.eco_learn.proofs.taken.Taken.open.Goals as goal

pub returns-in-None : goal.returns-in-None
returns-in-None c =
    let t = c.self.inside in
    subst (λ (k : Literals). IsWhole k.vars k.lits) c.self.view_is (whole_lits t.vars t.values.items t.places.items t.lits.items (vec_capacity t.lits) c.self.invariant (subst HasNoneOpen c.as_slice.ensures.value c.in-None.ensures))

pub returns-in-Some : goal.returns-in-Some
returns-in-Some c =
    let t = c.self.inside in
    let n = c.in-Some.number in
    subst (λ (k : Literals). IsOpenVar k.vars k.lits (record { 0 = n })) c.self.view_is (open_var t.vars t.values.items t.places.items t.lits.items (vec_capacity t.lits) n c.self.invariant c.in-Some.ensures.0 (subst (λ (vs : List (Option Bool)). slice_get vs n ≡ Some None) c.as_slice.ensures.value c.in-Some.ensures.1))
