-- Numbers as sets, and lists without repeats.
use Rattle.std.proofs.Common.{◌≡◌, ◌≢◌, inl, inr, ℕ, zero, suc, ◌≤◌, Bool, true, false, ◌||◌, cond, List, [], ◌∷◌, ◌++◌, map, refl, sym, ap, subst, ◌∙◌, arith, append_assoc}
use Rattle.std.specs.Prelude.{nat_eq, nat_le, count_by}
use Rattle.std.proofs.Common.{Some}
use Rattle.std.specs.List.{slice_get, AllPairs, Contains}
use Rattle.std.proofs.lemmas.Option.{none-some, same_Some}
use Rattle.std.proofs.lemmas.Bool.{eqb-true, eqb-false, eq-eqb, ne_eqb, le-leb, lt-leb, cases_lt, false≢true, true≢false, or_parts, or_from}
use Rattle.std.proofs.lemmas.List.{append-nil}
use Rattle.std.proofs.lemmas.List.Folds.{list_any-append}
use Rattle.std.proofs.lemmas.List.Sums.{sum_by-cons}
use Rattle.std.proofs.Math.Bool.{or_assoc, or-false}
use Rattle.indexmap.specs.IndexSet.{insert_key, insert_all}
use Rattle.eco_lists.proofs.Members.{AllPairs-tail, AllPairs-head, Contains_first, Contains_later}
use Rattle.eco_aiger.specs.Defined.{is_twice, is_in, NeverPasses}

-- no number stands twice
abbrev pub Apart : List ℕ → Type 0
Apart [] = Unit {0}
Apart (x ∷ xs) = (is_in xs x ≡ false) × Apart xs

-- one more key
pub in_insert : (keys : List ℕ) (x v : ℕ) → is_in (insert_key nat_eq keys x) v ≡ (is_in keys v || nat_eq v x)
in_insert keys x v = by (is_in keys x) refl
  where
    by : (b : Bool) → is_in keys x ≡ b → is_in (insert_key nat_eq keys x) v ≡ (is_in keys v || nat_eq v x)
    by false e = ap (λ b. is_in (cond b keys (keys ++ x ∷ [])) v) e ∙ list_any-append (nat_eq v) keys (x ∷ []) ∙ ap (λ b. is_in keys v || b) (or-false (nat_eq v x))
    by true e = ap (λ b. is_in (cond b keys (keys ++ x ∷ [])) v) e ∙ known (nat_eq v x) refl
      where
        known : (b : Bool) → nat_eq v x ≡ b → is_in keys v ≡ (is_in keys v || b)
        known false f = sym (or-false (is_in keys v))
        known true f =
            let same = eqb-true v x f in
            let here : is_in keys v ≡ true = subst (λ y. is_in keys y ≡ true) (sym same) e in
            here ∙ ap (λ b. b || true) (sym here)

-- what is among the keys after each is inserted in turn
pub in_insert_all : (keys xs : List ℕ) (v : ℕ) → is_in (insert_all nat_eq keys xs) v ≡ (is_in keys v || is_in xs v)
in_insert_all keys [] v = sym (or-false (is_in keys v))
in_insert_all keys (x ∷ xs) v =
    in_insert_all (insert_key nat_eq keys x) xs v ∙ ap (λ b. b || is_in xs v) (in_insert keys x v) ∙ or_assoc (is_in keys v) (nat_eq v x) (is_in xs v)

-- a set has what its list has
pub in_set : (xs : List ℕ) (v : ℕ) → is_in (insert_all nat_eq [] xs) v ≡ is_in xs v
in_set xs v = in_insert_all [] xs v

-- what stands behind a front is not in it
pub apart_behind : (front : List ℕ) (x : ℕ) (xs : List ℕ) → Apart (front ++ x ∷ xs) → is_in front x ≡ false
apart_behind [] x xs h = refl
apart_behind (y ∷ front) x xs h =
    let both = or_parts (is_in front y) (is_in (x ∷ xs) y) (sym (list_any-append (nat_eq y) front (x ∷ xs)) ∙ h.0) in
    let ne = or_parts (nat_eq y x) (is_in xs y) both.1 in
    or_from (nat_eq x y) (is_in front x) (ne_eqb x y (λ e. eqb-false y x ne.0 (sym e))) (apart_behind front x xs h.1)

-- a list without repeats is its own set
insert_apart : (front xs : List ℕ) → Apart (front ++ xs) → insert_all nat_eq front xs ≡ front ++ xs
insert_apart front [] h = sym (append-nil front)
insert_apart front (x ∷ xs) h =
    let new = apart_behind front x xs h in
    let step : insert_key nat_eq front x ≡ front ++ x ∷ [] = ap (λ b. cond b front (front ++ x ∷ [])) new in
    let same : (front ++ x ∷ []) ++ xs ≡ front ++ x ∷ xs = append_assoc front (x ∷ []) xs in
    ap (λ keys. insert_all nat_eq keys xs) step ∙ insert_apart (front ++ x ∷ []) xs (subst Apart (sym same) h) ∙ same

pub set_apart : (xs : List ℕ) → Apart xs → insert_all nat_eq [] xs ≡ xs
set_apart xs h = insert_apart [] xs h

-- one where the test passes
pub cond_one : (b : Bool) → b ≡ true → ◌≡◌ {A = ℕ} (cond b 1 0) 1
cond_one b e = ap (λ t. cond {A = ℕ} t 1 0) e

pub cond_none : (b : Bool) → b ≡ false → ◌≡◌ {A = ℕ} (cond b 1 0) 0
cond_none b e = ap (λ t. cond {A = ℕ} t 1 0) e

-- how often a number stands
pub none_counted : (xs : List ℕ) (x : ℕ) → count_by (nat_eq x) xs ≡ 0 → is_in xs x ≡ false
none_counted [] x e = refl
none_counted (y ∷ xs) x e = by (nat_eq x y) refl (none_counted xs x)
  where
    by : (b : Bool) → nat_eq x y ≡ b → (count_by (nat_eq x) xs ≡ 0 → is_in xs x ≡ false) → (b || is_in xs x) ≡ false
    by true f rest =
        let one = cond_one (nat_eq x y) f in
        let s = sum_by-cons (λ z. cond (nat_eq x z) 1 0) y xs in
        absurd (omega arith)
    by false f rest =
        let none = cond_none (nat_eq x y) f in
        let s = sum_by-cons (λ z. cond (nat_eq x z) 1 0) y xs in
        rest (omega arith)

pub counted : (xs : List ℕ) (x : ℕ) → is_in xs x ≡ true → 1 ≤ count_by (nat_eq x) xs
counted [] x e = absurd (false≢true e)
counted (y ∷ xs) x e = by (nat_eq x y) refl (counted xs x)
  where
    by : (b : Bool) → nat_eq x y ≡ b → (is_in xs x ≡ true → 1 ≤ count_by (nat_eq x) xs) → 1 ≤ count_by (nat_eq x) (y ∷ xs)
    by true f rest =
        let one = cond_one (nat_eq x y) f in
        let s = sum_by-cons (λ z. cond (nat_eq x z) 1 0) y xs in
        omega arith
    by false f rest =
        let le = rest (sym (ap (λ b. b || is_in xs x) f) ∙ e) in
        let s = sum_by-cons (λ z. cond (nat_eq x z) 1 0) y xs in
        omega arith

pub uncounted : (xs : List ℕ) (x : ℕ) → is_in xs x ≡ false → count_by (nat_eq x) xs ≡ 0
uncounted [] x e = refl
uncounted (y ∷ xs) x e =
    let both = or_parts (nat_eq x y) (is_in xs x) e in
    let none = cond_none (nat_eq x y) both.0 in
    let rest = uncounted xs x both.1 in
    let s = sum_by-cons (λ z. cond (nat_eq x z) 1 0) y xs in
    omega arith

-- a test of at least two that fails
pub at_most_one : (n : ℕ) → nat_le 2 n ≡ false → n ≤ 1
at_most_one n e = elim (cases_lt n 2) [ inl lt ↦ omega arith | inr le ↦ absurd (true≢false (sym (le-leb 2 n le) ∙ e)) ]

-- where no number stands twice in the list, it has no repeats
fewer_behind : (x : ℕ) (xs : List ℕ) (v : ℕ) → is_twice (x ∷ xs) v ≡ false → is_twice xs v ≡ false
fewer_behind x xs v e =
    let s = sum_by-cons (λ z. cond (nat_eq v z) 1 0) x xs in
    let le = at_most_one (count_by (nat_eq v) (x ∷ xs)) e in
    lt-leb 2 (count_by (nat_eq v) xs) (omega arith)

pub apart_from_counts : (xs : List ℕ) → NeverPasses (is_twice xs) → Apart xs
apart_from_counts [] h = tt
apart_from_counts (x ∷ xs) h =
    let s = sum_by-cons (λ z. cond (nat_eq x z) 1 0) x xs in
    let one = cond_one (nat_eq x x) (eq-eqb x x refl) in
    let le = at_most_one (count_by (nat_eq x) (x ∷ xs)) (h x) in
    (none_counted xs x (omega arith), apart_from_counts xs (λ v. fewer_behind x xs v (h v)))

-- the front of a list without repeats has none
pub apart_front : (xs ys : List ℕ) → Apart (xs ++ ys) → Apart xs
apart_front [] ys h = tt
apart_front (x ∷ xs) ys h = ((or_parts (is_in xs x) (is_in ys x) (sym (list_any-append (nat_eq x) xs ys) ∙ h.0)).0, apart_front xs ys h.1)

-- where the images don't repeat, neither does the list
pub in_map : (f : ℕ → ℕ) (xs : List ℕ) (x : ℕ) → is_in (map f xs) (f x) ≡ false → is_in xs x ≡ false
in_map f [] x e = refl
in_map f (y ∷ xs) x e =
    let both = or_parts (nat_eq (f x) (f y)) (is_in (map f xs) (f x)) e in
    or_from (nat_eq x y) (is_in xs x) (ne_eqb x y (λ same. eqb-false (f x) (f y) both.0 (ap f same))) (in_map f xs x both.1)

pub apart_map : (f : ℕ → ℕ) (xs : List ℕ) → Apart (map f xs) → Apart xs
apart_map f [] h = tt
apart_map f (x ∷ xs) h = (in_map f xs x h.0, apart_map f xs h.1)

-- what has another number each
unlike : {X : Type 0} (f : X → ℕ) (n : ℕ) (ys : List X) → ((y : X) → Contains ys y → n ≢ f y) → is_in (map f ys) n ≡ false
unlike f n [] g = refl
unlike f n (y ∷ ys) g = or_from (nat_eq n (f y)) (is_in (map f ys) n) (ne_eqb n (f y) (g y (Contains_first y ys))) (unlike f n ys (λ z c. g z (Contains_later y z ys c)))

-- what differs pairwise by a number has numbers without repeats
pub apart_by : {X : Type 0} (f : X → ℕ) (xs : List X) → AllPairs (λ a b. f a ≢ f b) xs → Apart (map f xs)
apart_by f [] h = tt
apart_by f (x ∷ xs) h = (unlike f (f x) xs (λ y c. AllPairs-head (λ a b. f a ≢ f b) x xs h y c), apart_by f xs (AllPairs-tail (λ a b. f a ≢ f b) x xs h))

-- what stands in a list by a number that isn't among the numbers has another one
pub not_in_map : {X : Type 0} (f : X → ℕ) (xs : List X) (n : ℕ) → is_in (map f xs) n ≡ false → (k : ℕ) (x : X) → slice_get xs k ≡ Some x → f x ≢ n
not_in_map f [] n none k x at = absurd (none-some x at)
not_in_map f (y ∷ xs) n none zero x at = λ e.
    let same : y ≡ x = same_Some y x at in
    let both = or_parts (nat_eq n (f y)) (is_in (map f xs) n) none in
    eqb-false n (f y) both.0 (sym e ∙ ap f (sym same))
not_in_map f (y ∷ xs) n none (suc k) x at = not_in_map f xs n (or_parts (nat_eq n (f y)) (is_in (map f xs) n) none).1 k x at
