-- Elements of lists by their places.
use Rattle.std.proofs.Common.{◌≡◌, ◌≢◌, ℕ, zero, suc, ◌+◌, ◌<◌, ◌⊎◌, inl, inr, List, [], ◌∷◌, ◌++◌, Some, length, get_or, set, take, map, refl, sym, ◌∙◌, ap, subst, arith, ◌-◌, Bool}
use Rattle.std.specs.List.{slice_get, All, AllPairs, Contains, AllZip}
use Rattle.std.proofs.lemmas.Bool.{cases_order}
use Rattle.std.proofs.lemmas.List.Quantifiers.{all_pairs_push}
use Rattle.std.proofs.lemmas.Option.{slice_get-get_or, slice_get_within, get_or_from_slice_get, none-some, same_Some, slice_get-map}
use Rattle.std.proofs.lemmas.List.{length-append}
-- within the list the default is never read
pub use Rattle.std.proofs.lemmas.List.{get_or_default as any_default}
use Rattle.std.specs.Option.{option_map}
use Rattle.std.proofs.lemmas.List.Kept.{AllPairs-cons}
use Rattle.std.proofs.lemmas.List.Elements.{Contains-get_or}

-- what the list has stands at a place, and what stands at a place is in the list
pub place_of : {X : Type 0} (xs : List X) (x : X) → Contains xs x → (k : ℕ) × (slice_get xs k ≡ Some x)
place_of xs x c = (c.0, slice_get-get_or xs c.0 x c.1 ∙ ap Some c.2)

pub Contains_at : {X : Type 0} (xs : List X) (k : ℕ) (x : X) → slice_get xs k ≡ Some x → Contains xs x
Contains_at xs k x e = (k, slice_get_within xs k x e, get_or_from_slice_get xs k x x e)

-- there is something at each place below the length
pub item_at : {X : Type 0} (xs : List X) (k : ℕ) → k < length xs → (x : X) × (slice_get xs k ≡ Some x)
item_at [] k lt = absurd (omega arith)
item_at (x ∷ xs) zero lt = (x, refl)
item_at (x ∷ xs) (suc k) lt = item_at xs k (omega arith)

-- what holds of all holds at each place
pub All_at : {X : Type 0} (P : X → Type 0) (xs : List X) (k : ℕ) (x : X) → All P xs → slice_get xs k ≡ Some x → P x
All_at P xs k x all e = subst P (get_or_from_slice_get xs k x x e) (all k x (slice_get_within xs k x e))

pub All_from_places : {X : Type 0} (P : X → Type 0) (xs : List X) → ((k : ℕ) (x : X) → slice_get xs k ≡ Some x → P x) → All P xs
All_from_places P xs h k d lt = h k (get_or xs k d) (slice_get-get_or xs k d lt)

-- two elements with one number stand at one place, where the numbers differ pairwise
pub same_place_by : {X : Type 0} (f : X → ℕ) (xs : List X) (i j : ℕ) (x y : X) → AllPairs (λ a b. f a ≢ f b) xs → slice_get xs i ≡ Some x → slice_get xs j ≡ Some y → f x ≡ f y → i ≡ j
same_place_by f xs i j x y apart at_i at_j same =
    let by_i = get_or_from_slice_get xs i x x at_i in
    let by_i' = get_or_from_slice_get xs i x y at_i in
    let by_j = get_or_from_slice_get xs j y x at_j in
    let by_j' = get_or_from_slice_get xs j y y at_j in
    elim (cases_order i j) [
      | inl e ↦ e
      | inr o ↦ elim o [
        | inl lt ↦ absurd (apart i j x lt (slice_get_within xs j y at_j) (ap f by_i ∙ same ∙ sym (ap f by_j)))
        | inr lt ↦ absurd (apart j i x lt (slice_get_within xs i x at_i) (ap f by_j ∙ sym same ∙ sym (ap f by_i)))
      ]
    ]

pub same_place : (xs : List ℕ) (i j x : ℕ) → AllPairs (λ a b. a ≢ b) xs → slice_get xs i ≡ Some x → slice_get xs j ≡ Some x → i ≡ j
same_place xs i j x apart at_i at_j = same_place_by (λ n. n) xs i j x x apart at_i at_j refl

-- a write, by places
pub slice_get-set_same : {X : Type 0} (xs : List X) (i : ℕ) (x : X) → i < length xs → slice_get (set xs i x) i ≡ Some x
slice_get-set_same [] i x lt = absurd (omega arith)
slice_get-set_same (y ∷ ys) zero x lt = refl
slice_get-set_same (y ∷ ys) (suc i) x lt = slice_get-set_same ys i x (omega arith)

pub slice_get-set_other : {X : Type 0} (xs : List X) (i j : ℕ) (x : X) → j ≢ i → slice_get (set xs i x) j ≡ slice_get xs j
slice_get-set_other [] i j x ne = refl
slice_get-set_other (y ∷ ys) zero zero x ne = absurd (ne refl)
slice_get-set_other (y ∷ ys) zero (suc j) x ne = refl
slice_get-set_other (y ∷ ys) (suc i) zero x ne = refl
slice_get-set_other (y ∷ ys) (suc i) (suc j) x ne = slice_get-set_other ys i j x (λ e. ne (ap suc e))

-- the front of a list, by places
pub place_in_front : {X : Type 0} (n : ℕ) (xs : List X) (k : ℕ) (x : X) → slice_get (take n xs) k ≡ Some x → (k < n) × (slice_get xs k ≡ Some x)
place_in_front zero xs k x e = absurd (none-some x e)
place_in_front (suc n) [] k x e = absurd (none-some x e)
place_in_front (suc n) (y ∷ ys) zero x e = (omega arith, e)
place_in_front (suc n) (y ∷ ys) (suc k) x e =
    let rest = place_in_front n ys k x e in
    (omega (arith, rest.0), rest.1)

pub slice_get-take : {X : Type 0} (n : ℕ) (xs : List X) (k : ℕ) (x : X) → k < n → slice_get xs k ≡ Some x → slice_get (take n xs) k ≡ Some x
slice_get-take zero xs k x lt e = absurd (omega arith)
slice_get-take (suc n) [] k x lt e = e
slice_get-take (suc n) (y ∷ ys) zero x lt e = e
slice_get-take (suc n) (y ∷ ys) (suc k) x lt e = slice_get-take n ys k x (omega arith) e

-- two functions that agree at each element give one list
pub map_agree : {X Y : Type 0} (f g : X → Y) (xs : List X) → ((k : ℕ) (x : X) → slice_get xs k ≡ Some x → f x ≡ g x) → map f xs ≡ map g xs
map_agree f g [] h = refl
map_agree f g (x ∷ xs) h = cc (h 0 x refl, map_agree f g xs (λ k y e. h (suc k) y e))

-- two lists of one length with the same element at each place are one
pub same_by_places : {X : Type 0} (xs ys : List X) → length xs ≡ length ys → ((k : ℕ) → k < length xs → slice_get xs k ≡ slice_get ys k) → xs ≡ ys
same_by_places [] [] e h = refl
same_by_places [] (y ∷ ys) e h = absurd (omega arith)
same_by_places (x ∷ xs) [] e h = absurd (omega arith)
same_by_places (x ∷ xs) (y ∷ ys) e h =
    cc (same_Some x y (h 0 (omega arith)), same_by_places xs ys (omega arith) (λ k lt. h (suc k) (omega arith)))

-- the front with one more element
pub take_at_more : {X : Type 0} (xs : List X) (k : ℕ) (x : X) → slice_get xs k ≡ Some x → take (suc k) xs ≡ take k xs ++ x ∷ []
take_at_more [] k x e = cc
take_at_more (y ∷ ys) zero x e = let same : y ≡ x = cc in ap (λ z. z ∷ []) same
take_at_more (y ∷ ys) (suc k) x e = ap (λ zs. y ∷ zs) (take_at_more ys k x e)

-- two lists one after the other, by places
pub slice_get-front : {X : Type 0} (xs ys : List X) (k : ℕ) → k < length xs → slice_get (xs ++ ys) k ≡ slice_get xs k
slice_get-front [] ys k lt = absurd (omega arith)
slice_get-front (x ∷ xs) ys zero lt = refl
slice_get-front (x ∷ xs) ys (suc k) lt = slice_get-front xs ys k (omega arith)

pub slice_get-back : {X : Type 0} (xs ys : List X) (k j : ℕ) → k ≡ length xs + j → slice_get (xs ++ ys) k ≡ slice_get ys j
slice_get-back [] ys k j e = ap (slice_get ys) (omega arith)
slice_get-back (x ∷ xs) ys zero j e = absurd (omega arith)
slice_get-back (x ∷ xs) ys (suc k) j e = slice_get-back xs ys k j (omega arith)

-- one more element, by places
pub slice_get-append_left : {X : Type 0} (xs ys : List X) (k : ℕ) (x : X) → slice_get xs k ≡ Some x → slice_get (xs ++ ys) k ≡ Some x
slice_get-append_left [] ys k x e = absurd (none-some x e)
slice_get-append_left (y ∷ xs) ys zero x e = e
slice_get-append_left (y ∷ xs) ys (suc k) x e = slice_get-append_left xs ys k x e

pub slice_get-push_last : {X : Type 0} (xs : List X) (y : X) → slice_get (xs ++ y ∷ []) (length xs) ≡ Some y
slice_get-push_last [] y = refl
slice_get-push_last (x ∷ xs) y = slice_get-push_last xs y

pub push_cases : {X : Type 0} (xs : List X) (y : X) (k : ℕ) (x : X) → slice_get (xs ++ y ∷ []) k ≡ Some x → (slice_get xs k ≡ Some x) ⊎ ((k ≡ length xs) × (x ≡ y))
push_cases [] y zero x e = inr (refl, same_Some x y (sym e))
push_cases [] y (suc k) x e = inl e
push_cases (z ∷ xs) y zero x e = inl e
push_cases (z ∷ xs) y (suc k) x e =
    elim (push_cases xs y k x e) [ inl old ↦ inl old | inr new ↦ inr (ap suc new.0, new.1) ]

-- a write, by cases
pub set_cases : {X : Type 0} (xs : List X) (i : ℕ) (x : X) (j : ℕ) (y : X) → slice_get (set xs i x) j ≡ Some y → ((j ≡ i) × (y ≡ x)) ⊎ ((j ≢ i) × (slice_get xs j ≡ Some y))
set_cases [] i x j y e = absurd (none-some y e)
set_cases (z ∷ xs) zero x zero y e = inl (refl, same_Some y x (sym e))
set_cases (z ∷ xs) zero x (suc j) y e = inr (λ h. absurd (omega arith), e)
set_cases (z ∷ xs) (suc i) x zero y e = inr (λ h. absurd (omega arith), e)
set_cases (z ∷ xs) (suc i) x (suc j) y e =
    elim (set_cases xs i x j y e) [ inl here ↦ inl (ap suc here.0, here.1) | inr other ↦ inr (λ h. other.0 (omega arith), other.1) ]

-- what a read with a default gives, where it is not the default
pub slice_get_from_get_or : {X : Type 0} (xs : List X) (i : ℕ) (d x : X) → get_or xs i d ≡ x → (d ≡ x → ⊥) → slice_get xs i ≡ Some x
slice_get_from_get_or [] i d x e ne = absurd (ne e)
slice_get_from_get_or (y ∷ xs) zero d x e ne = ap Some e
slice_get_from_get_or (y ∷ xs) (suc i) d x e ne = slice_get_from_get_or xs i d x e ne

-- a pairwise fact, by places
pub pair_at : {X : Type 0} (R : X → X → Type 0) (xs : List X) (i j : ℕ) (x y : X) → AllPairs R xs → i < j → slice_get xs i ≡ Some x → slice_get xs j ≡ Some y → R x y
pair_at R xs i j x y all lt at_i at_j =
    subst (λ z. R z y) (get_or_from_slice_get xs i x x at_i) (subst (λ z. R (get_or xs i x) z) (get_or_from_slice_get xs j y x at_j) (all i j x lt (slice_get_within xs j y at_j)))

pub pairs_from_places : {X : Type 0} (R : X → X → Type 0) (xs : List X) → ((i j : ℕ) (x y : X) → i < j → slice_get xs i ≡ Some x → slice_get xs j ≡ Some y → R x y) → AllPairs R xs
pairs_from_places R xs h i j d lt within =
    h i j (get_or xs i d) (get_or xs j d) lt (slice_get-get_or xs i d (omega arith)) (slice_get-get_or xs j d within)

pub pairs_push : {X : Type 0} (R : X → X → Type 0) (xs : List X) (y : X) → AllPairs R xs → ((k : ℕ) (x : X) → slice_get xs k ≡ Some x → R x y) → AllPairs R (xs ++ y ∷ [])
pairs_push R xs y all h = all_pairs_push R xs y all (λ k d lt. h k (get_or xs k d) (slice_get-get_or xs k d lt))

pub pairs_front : {X : Type 0} (R : X → X → Type 0) (xs ys : List X) → AllPairs R (xs ++ ys) → AllPairs R xs
pairs_front R xs ys all =
    pairs_from_places R xs (λ i j x y lt at_i at_j. pair_at R (xs ++ ys) i j x y all lt (slice_get-append_left xs ys i x at_i) (slice_get-append_left xs ys j y at_j))

-- of two numbers that differ one is less
pub cases_unequal : (i j : ℕ) → (i ≡ j → ⊥) → (i < j) ⊎ (j < i)
cases_unequal i j differ = elim (cases_order i j) [ inl same ↦ absurd (differ same) | inr apart ↦ apart ]

-- a list of no length is empty
pub no_items : {X : Type 0} (xs : List X) → length xs ≡ 0 → xs ≡ []
no_items [] none = refl
no_items (x ∷ xs) none = absurd (omega (arith, none))

-- what is behind a list is its last element
pub last_of : (xs : List ℕ) (x : ℕ) → get_or (xs ++ x ∷ []) (length (xs ++ x ∷ []) - 1) 0 ≡ x
last_of [] x = refl
last_of (y ∷ xs) x =
    let long : length (xs ++ x ∷ []) ≡ length xs + 1 = length-append xs (x ∷ []) in
    let next : length (y ∷ (xs ++ x ∷ [])) - 1 ≡ suc (length (xs ++ x ∷ []) - 1) = omega (arith, long) in
    ap (λ k. get_or (y ∷ (xs ++ x ∷ [])) k 0) next ∙ last_of xs x

-- items at one place of two lists with one image have one image
pub same_at : {X Y : Type 0} (a : X → Bool) (b : Y → Bool) (xs : List X) (ys : List Y) (k : ℕ) (x : X) (y : Y) → map a xs ≡ map b ys → slice_get xs k ≡ Some x → slice_get ys k ≡ Some y → a x ≡ b y
same_at a b xs ys k x y same at_x at_y =
    let left : slice_get (map a xs) k ≡ Some (a x) = slice_get-map a xs k ∙ ap (option_map a) at_x in
    let right : slice_get (map b ys) k ≡ Some (b y) = slice_get-map b ys k ∙ ap (option_map b) at_y in
    same_Some (a x) (b y) (sym left ∙ ap (λ bits. slice_get bits k) same ∙ right)

-- lists that stand behind one another
pub zip_append : {X Y : Type 0} (R : X → Y → Type 0) (xs : List X) (ys : List Y) (us : List X) (vs : List Y) → AllZip R xs ys → AllZip R us vs → AllZip R (xs ++ us) (ys ++ vs)
zip_append R [] [] us vs zip more = more
zip_append R [] (y ∷ ys) us vs zip more = absurd zip
zip_append R (x ∷ xs) [] us vs zip more = absurd zip
zip_append R (x ∷ xs) (y ∷ ys) us vs zip more = (zip.0, zip_append R xs ys us vs zip.1 more)

-- a list with one more in front, which stands so to all others
pub pairs_cons : {X : Type 0} (R : X → X → Type 0) (x : X) (xs : List X) → AllPairs R xs → ((y : X) → Contains xs y → R x y) → AllPairs R (x ∷ xs)
pairs_cons R x xs pairs first = AllPairs-cons R x xs (λ k d within. first (get_or xs k d) (Contains-get_or xs k d within)) pairs
