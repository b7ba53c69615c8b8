-- The first places of edges among others.
use Rattle.std.proofs.Common.{◌≡◌, ◌≢◌, ℕ, zero, suc, ◌+◌, ◌<◌, ◌≤◌, true, false, List, [], ◌∷◌, Some, length, refl, sym, ap, subst, arith}
use Rattle.std.specs.List.{Contains, slice_get}
use Rattle.std.proofs.lemmas.Option.{none-some, same_Some}
use Rattle.eco_lists.proofs.Places.{Contains_at}
use Rattle.eco_aig.specs.declared.edge.Edge.{Edge}
use Rattle.eco_splice.specs.GraphPatch.{same_edge}
use Rattle.eco_splice.proofs.GraphNets.{same_edge_is, same_edge_itself}
use Rattle.eco_splice.specs.LineGates.{first_place}

-- the first edge of a list is the edge, or it isn't
place_here : (x : Edge) (edges : List Edge) (e : Edge) → same_edge e x ≡ true → first_place (x ∷ edges) e ≡ 0
place_here x edges e is = rw is refl

place_later : (x : Edge) (edges : List Edge) (e : Edge) → same_edge e x ≡ false → first_place (x ∷ edges) e ≡ suc (first_place edges e)
place_later x edges e is =
    let step : first_place (x ∷ edges) e ≡ 1 + first_place edges e = rw is refl in
    omega (arith, step)

pub place_own : (edges : List Edge) (e : Edge) → first_place (e ∷ edges) e ≡ 0
place_own edges e = place_here e edges e (same_edge_itself e)

pub place_other : (x : Edge) (edges : List Edge) (e : Edge) → e ≢ x → first_place (x ∷ edges) e ≡ suc (first_place edges e)
place_other x edges e other =
    elim (same_edge e x) as (λ b. same_edge e x ≡ b → first_place (x ∷ edges) e ≡ suc (first_place edges e)) [
      | true ↦ λ is. absurd (other (same_edge_is e x is))
      | false ↦ λ is. place_later x edges e is
    ] refl

-- the edge stands at its first place
pub place_found : (edges : List Edge) (e : Edge) → first_place edges e < length edges → slice_get edges (first_place edges e) ≡ Some e
place_found [] e lt = absurd (omega arith)
place_found (x ∷ edges) e lt =
    elim (same_edge e x) as (λ b. same_edge e x ≡ b → slice_get (x ∷ edges) (first_place (x ∷ edges) e) ≡ Some e) [
      | true ↦ λ is. subst (λ (i : ℕ). slice_get (x ∷ edges) i ≡ Some e) (sym (place_here x edges e is)) (ap Some (sym (same_edge_is e x is)))
      | false ↦ λ is.
          let step = place_later x edges e is in
          subst (λ (i : ℕ). slice_get (x ∷ edges) i ≡ Some e) (sym step) (place_found edges e (omega (arith, step, lt)))
    ] refl

pub place_member : (edges : List Edge) (e : Edge) → first_place edges e < length edges → Contains edges e
place_member edges e lt = Contains_at edges (first_place edges e) e (place_found edges e lt)

-- it stands at none before that
pub place_least : (edges : List Edge) (i : ℕ) (e : Edge) → slice_get edges i ≡ Some e → first_place edges e ≤ i
place_least [] i e at = absurd (none-some e at)
place_least (x ∷ edges) zero e at =
    let step = place_here x edges e (subst (λ (y : Edge). same_edge e y ≡ true) (sym (same_Some x e at)) (same_edge_itself e)) in
    omega (arith, step)
place_least (x ∷ edges) (suc i) e at =
    elim (same_edge e x) as (λ b. same_edge e x ≡ b → first_place (x ∷ edges) e ≤ suc i) [
      | true ↦ λ is. let step = place_here x edges e is in omega (arith, step)
      | false ↦ λ is. let step = place_later x edges e is in let rest = place_least edges i e at in omega (arith, step, rest)
    ] refl
