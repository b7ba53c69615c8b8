-- Numbers of names in an order, and the names in that order.
use Rattle.std.proofs.Common.{◌≡◌, ◌≢◌, inl, inr, ℕ, ◌-◌, ◌^◌, ◌<◌, true, false, cond, List, [], ◌∷◌, ◌++◌, length, get_or, Some, ap, ◌∙◌, sym, subst, arith, nat_eq}
use Rattle.std.specs.Prelude.{fold, All, Contains, set, slice_get}
use Rattle.std.specs.List.{list_any}
use Rattle.std.proofs.lemmas.Bool.{cases_Bool, false_from_ne_true}
use Rattle.std.proofs.lemmas.Bool.Decides.{nat_tests}
use Rattle.std.proofs.lemmas.List.Elements.{Contains-append_left, Contains-push}
use Rattle.std.proofs.lemmas.List.Folds.{Any-from_list_any}
use Rattle.std.proofs.lemmas.Map.Keys.{any_passes_from_place}
use Rattle.std.proofs.lemmas.Option.{slice_get_within, same_Some}
use Rattle.eco_lists.proofs.Members.{Contains_cases, Contains_none}
use Rattle.eco_lists.proofs.Places.{place_of, Contains_at, push_cases, set_cases, slice_get-set_same, slice_get-set_other, slice_get-push_last, slice_get-append_left}
use Rattle.eco_gates.specs.declared.gate.NetId.{NetId}
use Rattle.eco_netlist.specs.Numbering.{with_net, IsNumbering}

-- what holds of all holds of an item
pub All_item : {X : Type 0} (P : X → Type 0) (xs : List X) (i : ℕ) (x : X) → All P xs → i < length xs → x ≡ get_or xs i x → P x
All_item P xs i x all within is = subst P (sym is) (all i x within)

-- a net with a place stands there, and one without stands nowhere
pub placed : (nets : List NetId) (places : List ℕ) (net : NetId) (place : ℕ) → IsNumbering nets places → slice_get places net.0 ≡ Some place → place ≢ 2 ^ 64 - 1 → slice_get nets place ≡ Some net
placed nets places net place is at somewhere = is.there net.0 place at somewhere

pub unplaced : (nets : List NetId) (places : List ℕ) (net : NetId) → IsNumbering nets places → length nets < 2 ^ 64 - 1 → slice_get places net.0 ≡ Some (2 ^ 64 - 1) → Contains nets net → ⊥
unplaced nets places net is few at member =
    let there = place_of nets net member in
    let same : 2 ^ 64 - 1 ≡ there.0 = same_Some (2 ^ 64 - 1) there.0 (sym at ∙ is.here there.0 net there.1) in
    let within : there.0 < length nets = slice_get_within nets there.0 net there.1 in
    omega (arith, same, within, few)

-- a net is put behind the others
pub put : (nets : List NetId) (places : List ℕ) (net : NetId) → IsNumbering nets places → length nets < 2 ^ 64 - 1 → slice_get places net.0 ≡ Some (2 ^ 64 - 1) → IsNumbering (nets ++ net ∷ []) (set places net.0 (length nets))
put nets places net is few at = record {
  here = λ place other found.
      elim (push_cases nets net place other found) [
        | inl old ↦
            slice_get-set_other places net.0 other.0 (length nets) (λ same.
            unplaced nets places net is few at (place_Contains place other old same))
            ∙ is.here place other old
        | inr new ↦
            ap (λ (o : NetId). slice_get (set places net.0 (length nets)) o.0) new.1
            ∙ slice_get-set_same places net.0 (length nets) (slice_get_within places net.0 (2 ^ 64 - 1) at)
            ∙ ap Some (sym new.0)
      ];
  there = λ number place found somewhere.
      elim (set_cases places net.0 (length nets) number place found) [
        | inl new ↦ ap (slice_get (nets ++ net ∷ [])) new.1 ∙ slice_get-push_last nets net ∙ ap (λ k. Some (record { 0 = k })) (sym new.0)
        | inr old ↦ slice_get-append_left nets (net ∷ []) place (record { 0 = number }) (is.there number place old.1 somewhere)
      ];
}
  where
    place_Contains : (place : ℕ) (other : NetId) → slice_get nets place ≡ Some other → other.0 ≡ net.0 → Contains nets net
    place_Contains place other old same =
        Contains_at nets place net (old ∙ ap (λ k. Some (record { 0 = k })) same)

-- whether a net is among others, by numbers
pub among : (nets : List NetId) (net : NetId) → Contains nets net → list_any (λ (other : NetId). nat_eq net.0 other.0) nets ≡ true
among nets net member =
    let there = place_of nets net member in
    any_passes_from_place (λ (other : NetId). nat_eq net.0 other.0) nets there.0 net there.1 (grind (arith, nat_tests))

pub not_among : (nets : List NetId) (net : NetId) → (Contains nets net → ⊥) → list_any (λ (other : NetId). nat_eq net.0 other.0) nets ≡ false
not_among nets net absent =
    false_from_ne_true (list_any (λ (other : NetId). nat_eq net.0 other.0) nets) (λ e.
    let found = Any-from_list_any (λ (other : NetId). nat_eq net.0 other.0) nets e in
    let same : net.0 ≡ found.1.0 = grind (arith, nat_tests, found.4) in
    absent (subst (λ k. Contains nets (record { 0 = k })) (sym same) (found.0, found.2, found.3)))

-- the net stands in the list that it was added to, and so do the others
pub with_net-has : (nets : List NetId) (net : NetId) → Contains (with_net nets net) net
with_net-has nets net =
    elim (cases_Bool (list_any (λ (other : NetId). nat_eq net.0 other.0) nets)) [
      | inl there ↦ rw there (
          let found = Any-from_list_any (λ (other : NetId). nat_eq net.0 other.0) nets there in
          let same : net.0 ≡ found.1.0 = grind (arith, nat_tests, found.4) in
          subst (λ k. Contains nets (record { 0 = k })) (sym same) (found.0, found.2, found.3))
      | inr absent ↦ rw absent (Contains-push nets net)
    ]

pub with_net-keeps : (nets : List NetId) (net other : NetId) → Contains nets other → Contains (with_net nets net) other
with_net-keeps nets net other member =
    elim (list_any (λ (other : NetId). nat_eq net.0 other.0) nets) as (λ b. Contains (cond b nets (nets ++ net ∷ [])) other) [
      | true ↦ member
      | false ↦ Contains-append_left nets (net ∷ []) other member
    ]

pub fold-keeps : (nets list : List NetId) (other : NetId) → Contains nets other → Contains (fold with_net nets list) other
fold-keeps nets [] other member = member
fold-keeps nets (net ∷ list) other member = fold-keeps (with_net nets net) list other (with_net-keeps nets net other member)

pub fold-has : (nets list : List NetId) (other : NetId) → Contains list other → Contains (fold with_net nets list) other
fold-has nets [] other member = absurd (Contains_none other member)
fold-has nets (net ∷ list) other member =
    elim (Contains_cases net other list member) [
      | inl same ↦ fold-keeps (with_net nets net) list other (subst (λ n. Contains (with_net nets net) n) same (with_net-has nets net))
      | inr later ↦ fold-has (with_net nets net) list other later
    ]
