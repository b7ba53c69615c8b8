-- The smallest of names, and circles begun at another place.
use Rattle.std.proofs.Common.{◌≡◌, ◌≢◌, ℕ, suc, ◌<◌, true, false, List, [], ◌∷◌, ◌++◌, take, drop, length, get_or, refl, ap, ◌∙◌, sym, subst, drop-cons, append_assoc, append-nil}
use Rattle.std.specs.Prelude.{All}
use Rattle.std.specs.Cmp.Lexicographic.{slice_cmp}
use Rattle.std.specs.Ordering.{nat_cmp, is_lt, is_gt, ordering_reverse}
use Rattle.std.specs.declared.cmp.Ordering.{Ordering}
use Rattle.std.specs.declared.cmp.Ordering.TheVariants.{Less, Equal, Greater}
use Rattle.std.proofs.lemmas.Bool.{false≢true}
use Rattle.std.proofs.lemmas.Cmp.{nat_list_cmp_total, upto}
use Rattle.std.proofs.lemmas.List.Elements.{All-append, All-take, All-drop, All-tail}
use Rattle.std.proofs.lemmas.Option.{slice_get_read, get_or_from_slice_get}
use Rattle.eco_meaning.specs.Circuit.{IsChain, IsCircle, last_of}
use Rattle.eco_netlist.specs.Refusals.{IsNoLater, StartsSmallest}

-- what stands at a place, whatever the default
pub at_place : {X : Type 0} (xs : List X) (i : ℕ) (x d : X) → i < length xs → x ≡ get_or xs i x → get_or xs i d ≡ x
at_place xs i x d within is = get_or_from_slice_get xs i x d (slice_get_read xs (length xs) i x refl within is)

-- the order of names as a test
not_greater : (o : Ordering) → o ≢ Less → is_gt (ordering_reverse o) ≡ false
not_greater Less h = absurd (h refl)
not_greater Equal h = refl
not_greater Greater h = refl

not_less : (o : Ordering) → is_gt (ordering_reverse o) ≡ false → o ≢ Less
not_less o h less = false≢true (sym h ∙ ap (λ p. is_gt (ordering_reverse p)) less)

no_later_test : (a b : List ℕ) → IsNoLater a b → is_gt (slice_cmp nat_cmp a b) ≡ false
no_later_test a b h = ap is_gt (nat_list_cmp_total.antisymm a b) ∙ not_greater (slice_cmp nat_cmp b a) h

test_no_later : (a b : List ℕ) → is_gt (slice_cmp nat_cmp a b) ≡ false → IsNoLater a b
test_no_later a b h = not_less (slice_cmp nat_cmp b a) (sym (ap is_gt (nat_list_cmp_total.antisymm a b)) ∙ h)

pub no_later_through : (a b c : List ℕ) → IsNoLater a b → IsNoLater b c → IsNoLater a c
no_later_through a b c first second =
    test_no_later a c (upto nat_list_cmp_total a b c (no_later_test a b first) (no_later_test b c second))

less_not_greater : (o : Ordering) → is_lt o ≡ true → is_gt o ≡ false
less_not_greater Less e = refl
less_not_greater Equal e = refl
less_not_greater Greater e = absurd (false≢true e)

pub no_later_less : (a b : List ℕ) → is_lt (slice_cmp nat_cmp a b) ≡ true → IsNoLater a b
no_later_less a b e = test_no_later a b (less_not_greater (slice_cmp nat_cmp a b) e)

-- a list begun at its smallest name starts with it
pub smallest_turned : (names : List (List ℕ)) (k : ℕ) (turned : List (List ℕ)) → k < length names → All (IsNoLater (get_or names k [])) names → turned ≡ drop k names ++ take k names → StartsSmallest turned
smallest_turned names k turned within least is first others split =
    let P : List ℕ → Type 0 = IsNoLater (get_or names k []) in
    let all : All P (drop k names ++ take k names) = All-append P (drop k names) (take k names) (All-drop P k names least) (All-take P k names least) in
    let whole : first ∷ others ≡ get_or names k [] ∷ (drop (suc k) names ++ take k names) =
    sym split ∙ is ∙ ap (λ rest. rest ++ take k names) (drop-cons names k [] within) in
    let starts : first ≡ get_or names k [] = cc whole in
    let here : All P (first ∷ others) = subst (λ (l : List (List ℕ)). All P l) (sym is ∙ split) all in
    subst (λ (name : List ℕ). All (IsNoLater name) others) (sym starts) (All-tail P first others here)

-- the last of a list that ends in an element
last_push : {X : Type 0} (y x : X) (xs : List X) → last_of y (xs ++ x ∷ []) ≡ x
last_push y x [] = refl
last_push y x (z ∷ zs) = last_push z x zs

-- a chain with one more element
chain_push : {X : Type 0} (R : X → X → Type 0) (y x : X) (xs : List X) → IsChain R y xs → R (last_of y xs) x → IsChain R y (xs ++ x ∷ [])
chain_push R y x [] chain follows = (follows, tt)
chain_push R y x (z ∷ zs) chain follows = (chain.0, chain_push R z x zs chain.1 follows)

-- a circle begun one place further
circle_once : {X : Type 0} (R : X → X → Type 0) (x : X) (xs : List X) → IsCircle R (x ∷ xs) → IsCircle R (xs ++ x ∷ [])
circle_once R x [] circle = circle
circle_once R x (y ∷ ys) circle =
    (chain_push R y x ys circle.0.1 circle.1, rw (last_push y x ys) circle.0.0)

-- a circle begun anywhere
pub circle_turned : {X : Type 0} (R : X → X → Type 0) (front back : List X) → IsCircle R (front ++ back) → IsCircle R (back ++ front)
circle_turned R [] back circle = rw append-nil circle
circle_turned R (x ∷ front) back circle =
    let once : IsCircle R (front ++ (back ++ x ∷ [])) = rw append_assoc at (circle_once R x (front ++ back) circle) in
    let rest : IsCircle R ((back ++ x ∷ []) ++ front) = circle_turned R front (back ++ x ∷ []) once in
    rw append_assoc at rest
