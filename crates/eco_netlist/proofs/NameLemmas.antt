-- Lists of names.
use Rattle.std.proofs.Common.{◌≡◌, ℕ, ◌<◌, false, List, map, length, Some, sym, ◌∙◌, ap, get_or, inl, inr}
use Rattle.std.proofs.lemmas.List.{length-map}
use Rattle.std.specs.Prelude.{Contains, option_map}
use Rattle.std.specs.List.{position, slice_get, IsDistinct}
use Rattle.std.specs.Str.{bytes_eq}
use Rattle.std.proofs.lemmas.Bool.{cases_order, false≢true}
use Rattle.std.proofs.lemmas.List.Quantifiers.{position-Some}
use Rattle.std.proofs.lemmas.Map.Keys.{apart_from_distinct}
use Rattle.std.proofs.lemmas.Option.{slice_get-get_or, slice_get-map, slice_get_within, get_or_from_slice_get, same_Some}
use Rattle.eco_lists.proofs.Names.{bytes_eq-same, same_name}
use Rattle.eco_lists.proofs.Places.{place_of, item_at}

-- what stands at the first place of a name
pub slice_get-position : (list : List (List ℕ)) (name : List ℕ) (i : ℕ) → position (bytes_eq name) list ≡ Some i → slice_get list i ≡ Some name
slice_get-position list name i e =
    let found = position-Some (bytes_eq name) list i name e in
    slice_get-get_or list i name found.0 ∙ ap (λ x. Some x) (sym (same_name name (get_or list i name) found.1))

-- a name stands at one place of a list of different names
no_repeat : (list : List (List ℕ)) (i j : ℕ) (name : List ℕ) → IsDistinct bytes_eq list → i < j → slice_get list i ≡ Some name → slice_get list j ≡ Some name → ⊥
no_repeat list i j name distinct below at_i at_j =
    let apart = apart_from_distinct bytes_eq list i j name distinct below (slice_get_within list j name at_j) in
    let at_first : get_or list i name ≡ name = get_or_from_slice_get list i name name at_i in
    let at_second : get_or list j name ≡ name = get_or_from_slice_get list j name name at_j in
    let same : bytes_eq name name ≡ false = rw (at_first, at_second) at apart in
    false≢true (sym same ∙ bytes_eq-same name)

pub one_place : (list : List (List ℕ)) (i j : ℕ) (name : List ℕ) → IsDistinct bytes_eq list → slice_get list i ≡ Some name → slice_get list j ≡ Some name → i ≡ j
one_place list i j name distinct at_i at_j =
    elim (cases_order i j) [
      | inl same ↦ same
      | inr apart ↦ elim apart [
        | inl below ↦ absurd (no_repeat list i j name distinct below at_i at_j)
        | inr above ↦ absurd (no_repeat list j i name distinct above at_j at_i)
      ]
    ]

-- what stands at a place of a mapped list comes from what stands there in the list
pub unmapped : {X Y : Type 0} (f : X → Y) (xs : List X) (k : ℕ) (y : Y) → slice_get (map f xs) k ≡ Some y → (x : X) × (slice_get xs k ≡ Some x) × (f x ≡ y)
unmapped f xs k y at =
    let mapped = slice_get_within (map f xs) k y at in
    let within : k < length xs = rw length-map at mapped in
    let item = item_at xs k within in
    (item.0, item.1, same_Some (f item.0) y (sym (slice_get-map f xs k ∙ ap (option_map f) item.1) ∙ at))

-- the same for a member
pub unmapped_member : {X Y : Type 0} (f : X → Y) (xs : List X) (y : Y) → Contains (map f xs) y → (x : X) × (k : ℕ) × (slice_get xs k ≡ Some x) × (f x ≡ y)
unmapped_member f xs y member =
    let place = place_of (map f xs) y member in
    let found = unmapped f xs place.0 y place.1 in
    (found.0, place.0, found.1, found.2)
