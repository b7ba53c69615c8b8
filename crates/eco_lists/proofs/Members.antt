-- What lists have in them, by their first element and by images.
use Rattle.std.proofs.Common.{◌≡◌, zero, suc, ◌⊎◌, inl, inr, List, [], ◌∷◌, map, refl, sym, ◌∙◌, ap, subst, arith, Bool, true, false, cond, ◌++◌, filter}
use Rattle.std.specs.List.{AllPairs, Contains, list_any, All}
use Rattle.std.proofs.lemmas.List.{get_or-map, length-map}
use Rattle.std.proofs.lemmas.List.Folds.{Any-from_list_any, list_any_at}
use Rattle.std.proofs.lemmas.Bool.{both_ways}
use Rattle.std.proofs.lemmas.List.Elements.{All-nil, All-cons, All-head, All-tail}

-- the first element, and the others
pub Contains_first : {X : Type 0} (x : X) (xs : List X) → Contains (x ∷ xs) x
Contains_first x xs = (0, omega arith, refl)

pub Contains_later : {X : Type 0} (x y : X) (xs : List X) → Contains xs y → Contains (x ∷ xs) y
Contains_later x y xs c = (suc c.0, omega arith, c.2)

pub Contains_cases : {X : Type 0} (x y : X) (xs : List X) → Contains (x ∷ xs) y → (x ≡ y) ⊎ Contains xs y
Contains_cases x y xs (zero, lt, e) = inl e
Contains_cases x y xs (suc k, lt, e) = inr (k, omega arith, e)

pub Contains_none : {X : Type 0} (x : X) → Contains [] x → ⊥
Contains_none x c = omega (arith, c.1)

-- the one member of a list of one
pub only_one : {X : Type 0} (x y : X) → Contains (x ∷ []) y → x ≡ y
only_one x y c = elim (Contains_cases x y [] c) [ inl same ↦ same | inr none ↦ absurd (Contains_none y none) ]

-- images
pub Contains-map : {X Y : Type 0} (f : X → Y) (xs : List X) (x : X) → Contains xs x → Contains (map f xs) (f x)
Contains-map f xs x (k, within, at) = (k, omega (arith, length-map xs f), get_or-map f xs k x (f x) within ∙ ap f at)

pub map-Contains : {X Y : Type 0} (f : X → Y) (xs : List X) (y : Y) → Contains (map f xs) y → (x : X) × Contains xs x × (f x ≡ y)
map-Contains f [] y c = absurd (Contains_none y c)
map-Contains f (x ∷ xs) y c =
    elim (Contains_cases (f x) y (map f xs) c) [
      | inl e ↦ (x, Contains_first x xs, e)
      | inr later ↦
          let rest = map-Contains f xs y later in
          (rest.0, Contains_later x rest.0 xs rest.1, rest.2)
    ]

pub map-map : {X Y Z : Type 0} (f : X → Y) (g : Y → Z) (xs : List X) → map g (map f xs) ≡ map (λ x. g (f x)) xs
map-map f g [] = refl
map-map f g (x ∷ xs) = ap (λ ys. g (f x) ∷ ys) (map-map f g xs)

-- the pairs of the rest are pairs of the whole, and the first element stands so to each later one
pub AllPairs-tail : {X : Type 0} (R : X → X → Type 0) (x : X) (xs : List X) → AllPairs R (x ∷ xs) → AllPairs R xs
AllPairs-tail R x xs h i j d lt in' = h (suc i) (suc j) d (omega arith) (omega arith)

pub AllPairs-head : {X : Type 0} (R : X → X → Type 0) (x : X) (xs : List X) → AllPairs R (x ∷ xs) → (y : X) → Contains xs y → R x y
AllPairs-head R x xs h y (k, lt, e) = subst (λ z. R x z) e (h 0 (suc k) y (omega arith) (omega arith))

-- a test of some is passed by a member, and a member that passes it makes it true
pub some_passes : {X : Type 0} (p : X → Bool) (xs : List X) → list_any p xs ≡ true → (x : X) × Contains xs x × (p x ≡ true)
some_passes p xs e = let found = Any-from_list_any p xs e in (found.1, (found.0, found.2, found.3), found.4)

pub passes_any : {X : Type 0} (p : X → Bool) (xs : List X) (x : X) → Contains xs x → p x ≡ true → list_any p xs ≡ true
passes_any p xs x c e = list_any_at p xs c.0 x c.1 (ap p c.2 ∙ e)

-- what a filter keeps
pub Contains-filter : {X : Type 0} (p : X → Bool) (xs : List X) (x : X) → Contains xs x → p x ≡ true → Contains (filter p xs) x
Contains-filter p [] x c passes = c
Contains-filter p (y ∷ ys) x c passes =
    elim (p y) as (λ b. p y ≡ b → Contains (cond b (y ∷ filter p ys) (filter p ys)) x) [
      | true ↦ λ e. elim (Contains_cases y x ys c) [
        | inl same ↦ subst (λ z. Contains (y ∷ filter p ys) z) same (Contains_first y (filter p ys))
        | inr later ↦ Contains_later y x (filter p ys) (Contains-filter p ys x later passes)
      ]
      | false ↦ λ e. elim (Contains_cases y x ys c) [
        | inl same ↦ absurd (both_ways (p y) e (ap p same ∙ passes))
        | inr later ↦ Contains-filter p ys x later passes
      ]
    ] refl

-- and what is kept was there and passes
pub filter-Contains : {X : Type 0} (p : X → Bool) (xs : List X) (x : X) → Contains (filter p xs) x → Contains xs x × (p x ≡ true)
filter-Contains p [] x c = absurd (Contains_none x c)
filter-Contains {X} p (y ∷ ys) x c =
    elim (p y) as (λ b. p y ≡ b → Contains (cond b (y ∷ filter p ys) (filter p ys)) x → Contains (y ∷ ys) x × (p x ≡ true)) [
      | true ↦ λ e d. elim (Contains_cases y x (filter p ys) d) [
        | inl same ↦ (subst (λ z. Contains (y ∷ ys) z) same (Contains_first y ys), ap p (sym same) ∙ e)
        | inr later ↦ let rest = filter-Contains p ys x later in (Contains_later y x ys rest.0, rest.1)
      ]
      | false ↦ λ e d. let rest = filter-Contains p ys x d in (Contains_later y x ys rest.0, rest.1)
    ] refl c

-- what all of a list that was joined have, each part's have
pub All-front : {X : Type 0} (P : X → Type 0) (xs ys : List X) → All P (xs ++ ys) → All P xs
All-front P [] ys h = All-nil P
All-front P (x ∷ xs) ys h = All-cons P x xs (All-head P x (xs ++ ys) h) (All-front P xs ys (All-tail P x (xs ++ ys) h))

pub All-back : {X : Type 0} (P : X → Type 0) (xs ys : List X) → All P (xs ++ ys) → All P ys
All-back P [] ys h = h
All-back P (x ∷ xs) ys h = All-back P xs ys (All-tail P x (xs ++ ys) h)
