-- The last literal is taken back.
use Rattle.std.proofs.Common.{◌≡◌, List, [], ◌∷◌, ◌++◌, subst}
use Rattle.std.specs.Vec.{vec_capacity}
use Rattle.eco_trace.specs.declared.clause.Lit.{Lit}
use Rattle.eco_learn.specs.TakenLits.{AreKept}
use Rattle.eco_learn.proofs.TakenLaws.{kept_pop}
use Rattle.eco_learn.proofs.taken.Taken.pop.Goals as goal

pub invariant_of-self-in-Some : goal.invariant_of-self-in-Some
invariant_of-self-in-Some c =
    let t = c.self.inside in
    let left = c.pop.new.self.items in
    let split : t.lits.items ≡ left ++ c.in-Some.lit ∷ [] = c.in-Some.ensures.items in
    let old : AreKept t.vars t.values.items t.places.items (left ++ c.in-Some.lit ∷ []) (vec_capacity t.lits) = subst (λ (lits : List Lit). AreKept t.vars t.values.items t.places.items lits (vec_capacity t.lits)) split c.self.invariant in
    rw c.in-Some.ensures.capacity (kept_pop t.vars t.values.items t.places.items left (vec_capacity t.lits) c.in-Some.lit old)
