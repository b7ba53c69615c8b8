-- What the arrays keep.
use Rattle.std.proofs.Common.{◌≢◌, ◌≤◌, length, subst}
use Rattle.std.specs.List.{AllPairs}
use Rattle.std.specs.Vec.{vec_capacity}
use Rattle.eco_learn.specs.TakenLits.{Literals}
use Rattle.eco_learn.proofs.TakenLaws.{kept_apart, kept_few}
use Rattle.eco_learn.proofs.taken.Taken.is_sound.Goals as goal

pub returns-clause-apart : goal.returns-clause-apart
returns-clause-apart c =
    let t = c.self.inside in
    subst (λ (k : Literals). AllPairs (λ a b. a.var ≢ b.var) k.lits) c.self.view_is (kept_apart t.vars t.values.items t.places.items t.lits.items (vec_capacity t.lits) c.self.invariant)

pub returns-clause-few : goal.returns-clause-few
returns-clause-few c =
    let t = c.self.inside in
    subst (λ (k : Literals). length k.lits ≤ k.vars) c.self.view_is (kept_few t.vars t.values.items t.places.items t.lits.items (vec_capacity t.lits) c.self.invariant)
