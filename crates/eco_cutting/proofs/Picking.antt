-- What is picked of lists by names.
use Rattle.std.proofs.Common.{arith, ◌≡◌, ◌≢◌, ◌⊎◌, inl, inr, ℕ, false, cond, List, [], ◌∷◌, ◌++◌, map, refl, sym, ◌∙◌, ap, subst}
use Rattle.std.specs.List.{AllPairs, Contains}
use Rattle.std.specs.Str.{bytes_eq}
use Rattle.std.proofs.lemmas.Bool.{false_from_ne_true}
use Rattle.eco_lists.proofs.Members.{Contains-map, map-Contains, Contains_first, Contains_later, Contains_cases, Contains_none, AllPairs-head, AllPairs-tail}
use Rattle.std.proofs.lemmas.List.Elements.{Contains-append_right}
use Rattle.eco_lists.proofs.Names.{bytes_eq-same, same_name}
use Rattle.eco_lists.proofs.Places.{pairs_cons}
use Rattle.eco_laws.proofs.Members.{cases_member}
use Rattle.eco_cutting.specs.Cuts.{chosen_by}

-- the item that has the name, if keys differ
pub picked_at : {X Y : Type 0} (key : X → List ℕ) (pick : X → Y) (xs : List X) (x : X) (default : Y) → AllPairs (λ a b. a ≢ b) (map key xs) → Contains xs x → chosen_by key pick xs (key x) default ≡ pick x
unfolding chosen_by
picked_at key pick [] x default apart c = absurd (Contains_none x c)
picked_at key pick (y ∷ ys) x default apart c =
    elim (Contains_cases y x ys c) [
      | inl here ↦
          ap (λ b. cond b (pick y) (chosen_by key pick ys (key x) default)) (ap (λ z. bytes_eq (key x) (key z)) here ∙ bytes_eq-same (key x)) ∙ ap pick here
      | inr later ↦
          let differ : bytes_eq (key x) (key y) ≡ false = false_from_ne_true (bytes_eq (key x) (key y)) (λ e.
          AllPairs-head (λ a b. a ≢ b) (key y) (map key ys) apart (key x) (Contains-map key ys x later) (sym (same_name (key x) (key y) e))) in
          ap (λ b. cond b (pick y) (chosen_by key pick ys (key x) default)) differ
          ∙ picked_at key pick ys x default (AllPairs-tail (λ a b. a ≢ b) (key y) (map key ys) apart) later
    ]

-- the default, if no item has the name
pub picked_not : {X Y : Type 0} (key : X → List ℕ) (pick : X → Y) (xs : List X) (name : List ℕ) (default : Y) → (Contains (map key xs) name → ⊥) → chosen_by key pick xs name default ≡ default
unfolding chosen_by
picked_not key pick [] name default none = refl
picked_not key pick (y ∷ ys) name default none =
    let differ : bytes_eq name (key y) ≡ false = false_from_ne_true (bytes_eq name (key y)) (λ e.
    none (subst (Contains (key y ∷ map key ys)) (sym (same_name name (key y) e)) (Contains_first (key y) (map key ys)))) in
    ap (λ b. cond b (pick y) (chosen_by key pick ys name default)) differ
    ∙ picked_not key pick ys name default (λ c. none (Contains_later (key y) name (map key ys) c))

-- some item has the name, or none has
pub picked_cases : {X : Type 0} (key : X → List ℕ) (xs : List X) (name : List ℕ) → ((x : X) × Contains xs x × (key x ≡ name)) ⊎ (Contains (map key xs) name → ⊥)
picked_cases key xs name = elim (cases_member (map key xs) name) [ inl c ↦ inl (map-Contains key xs name c) | inr none ↦ inr none ]

-- of two lists that were joined, the pairs of the second, and those across
pub pairs_back : (R : List ℕ → List ℕ → Type 0) (xs ys : List (List ℕ)) → AllPairs R (xs ++ ys) → AllPairs R ys
pairs_back R [] ys h = h
pairs_back R (x ∷ xs) ys h = pairs_back R xs ys (AllPairs-tail R x (xs ++ ys) h)

pub pairs_across : (R : List ℕ → List ℕ → Type 0) (xs ys : List (List ℕ)) (x y : List ℕ) → AllPairs R (xs ++ ys) → Contains xs x → Contains ys y → R x y
pairs_across R [] ys x y h c d = absurd (Contains_none x c)
pairs_across R (z ∷ xs) ys x y h c d =
    elim (Contains_cases z x xs c) [
      | inl here ↦ subst (λ a. R a y) here (AllPairs-head R z (xs ++ ys) h y (Contains-append_right xs ys y d))
      | inr later ↦ pairs_across R xs ys x y (AllPairs-tail R z (xs ++ ys) h) later d
    ]

-- pairs of images
pub pairs_to_map : {X : Type 0} (key : X → List ℕ) (xs : List X) → AllPairs (λ a b. key a ≢ key b) xs → AllPairs (λ a b. a ≢ b) (map key xs)
pairs_to_map key [] h = λ i j d less within. absurd (omega (arith, within))
pairs_to_map key (x ∷ xs) h =
    pairs_cons (λ a b. a ≢ b) (key x) (map key xs) (pairs_to_map key xs (AllPairs-tail (λ a b. key a ≢ key b) x xs h)) (λ name c.
    let (y, member, same) = map-Contains key xs name c in
    subst (λ n. key x ≢ n) same (AllPairs-head (λ a b. key a ≢ key b) x xs h y member))

pub pairs_from_map : {X : Type 0} (key : X → List ℕ) (xs : List X) → AllPairs (λ a b. a ≢ b) (map key xs) → AllPairs (λ a b. key a ≢ key b) xs
pairs_from_map key [] h = λ i j d less within. absurd (omega (arith, within))
pairs_from_map key (x ∷ xs) h =
    pairs_cons (λ a b. key a ≢ key b) x xs (pairs_from_map key xs (AllPairs-tail (λ a b. a ≢ b) (key x) (map key xs) h))
    (λ y member. AllPairs-head (λ a b. a ≢ b) (key x) (map key xs) h (key y) (Contains-map key xs y member))

-- items with one key are one
pub one_item : {X : Type 0} (key : X → List ℕ) (xs : List X) (x y : X) → AllPairs (λ a b. a ≢ b) (map key xs) → Contains xs x → Contains xs y → key x ≡ key y → x ≡ y
one_item key xs x y apart has_x has_y same =
    sym (picked_at key (λ z. z) xs x x apart has_x) ∙ ap (λ name. chosen_by key (λ z. z) xs name x) same ∙ picked_at key (λ z. z) xs y x apart has_y
