-- The variables of nodes, by the nodes' places.
use Rattle.std.proofs.Common.{◌≡◌, ◌≢◌, ℕ, zero, suc, ◌+◌, ◌<◌, Bool, true, false, not, cond, eqb, List, [], ◌∷◌, ◌++◌, Some, length, get_or, refl, sym, ◌∙◌, ap, subst, arith, ltb, ltb-true, ltb-false, inl, inr, eqb-true, eq-eqb}
use Rattle.std.specs.List.{slice_get, Contains, AllPairs, IsDistinct, list_any, position_or_len}
use Rattle.std.proofs.lemmas.Bool.{true≢false, cases_eq}
use Rattle.std.proofs.lemmas.List.Folds.{Any-from_list_any, list_any-from_Any}
use Rattle.std.proofs.lemmas.List.Elements.{Contains-get_or}
use Rattle.std.proofs.lemmas.Map.Keys.{apart_from_distinct, IsDistinct-tail}
use Rattle.std.proofs.lemmas.Option.{same_Some, slice_get_within, get_or_from_slice_get}
use Rattle.eco_aig.specs.declared.edge.Edge.{Edge}
use Rattle.eco_tseitin.specs.Encoding.{variable_of, literal_of}

-- the place of a node among those that have variables
abbrev pub place_of : List ℕ → ℕ → ℕ
place_of nodes k = position_or_len (eqb k) nodes

-- the place at which the first node stands, and at which the others do
place_first : (x : ℕ) (xs : List ℕ) (k : ℕ) (b : Bool) → eqb k x ≡ b → place_of (x ∷ xs) k ≡ cond (not b) (1 + place_of xs k) 0
place_first x xs k b e = ap (λ c. cond (not c) (1 + place_of xs k) 0) e

one_more : (n : ℕ) → 1 + n ≡ suc n
one_more n = omega arith

-- a node that has a variable stands at its place
stands : (nodes : List ℕ) (k j : ℕ) → j < length nodes → get_or nodes j k ≡ k → slice_get nodes (place_of nodes k) ≡ Some k
stands [] k j lt at = absurd (omega arith)
stands (x ∷ xs) k j lt at = by (eqb k x) refl j lt at (λ i. stands xs k i)
  where
    by : (b : Bool) → eqb k x ≡ b → (j : ℕ) → j < length (x ∷ xs) → get_or (x ∷ xs) j k ≡ k → ((i : ℕ) → i < length xs → get_or xs i k ≡ k → slice_get xs (place_of xs k) ≡ Some k) → slice_get (x ∷ xs) (place_of (x ∷ xs) k) ≡ Some k
    by true e j lt at more = ap (slice_get (x ∷ xs)) (place_first x xs k true e) ∙ ap Some (sym (eqb-true k x e))
    by false e zero lt at more = absurd (true≢false (sym (eq-eqb k x (sym at)) ∙ e))
    by false e (suc j) lt at more =
        ap (slice_get (x ∷ xs)) (place_first x xs k false e ∙ one_more (place_of xs k)) ∙ more j (omega arith) at

pub place_stands : (nodes : List ℕ) (k : ℕ) → Contains nodes k → slice_get nodes (place_of nodes k) ≡ Some k
place_stands nodes k c = stands nodes k c.0 c.1 c.2

-- a node keeps its place where more are added
keeps : (nodes more : List ℕ) (k j : ℕ) → j < length nodes → get_or nodes j k ≡ k → place_of (nodes ++ more) k ≡ place_of nodes k
keeps [] more k j lt at = absurd (omega arith)
keeps (x ∷ xs) more k j lt at = by (eqb k x) refl j lt at (λ i. keeps xs more k i)
  where
    by : (b : Bool) → eqb k x ≡ b → (j : ℕ) → j < length (x ∷ xs) → get_or (x ∷ xs) j k ≡ k → ((i : ℕ) → i < length xs → get_or xs i k ≡ k → place_of (xs ++ more) k ≡ place_of xs k) → place_of ((x ∷ xs) ++ more) k ≡ place_of (x ∷ xs) k
    by true e j lt at rest = place_first x (xs ++ more) k true e ∙ sym (place_first x xs k true e)
    by false e zero lt at rest = absurd (true≢false (sym (eq-eqb k x (sym at)) ∙ e))
    by false e (suc j) lt at rest =
        place_first x (xs ++ more) k false e ∙ ap (λ n. 1 + n) (rest j (omega arith) at) ∙ sym (place_first x xs k false e)

place_stays : (nodes more : List ℕ) (k : ℕ) → Contains nodes k → place_of (nodes ++ more) k ≡ place_of nodes k
place_stays nodes more k c = keeps nodes more k c.0 c.1 c.2

pub variable_stays : (nodes more : List ℕ) (k : ℕ) → Contains nodes k → variable_of (nodes ++ more) k ≡ variable_of nodes k
variable_stays nodes more k c = ap (λ p. record { 0 = p + 1 }) (place_stays nodes more k c)

pub literal_stays : (nodes more : List ℕ) (e : Edge) → Contains nodes e.node → literal_of (nodes ++ more) e ≡ literal_of nodes e
literal_stays nodes more e c =
    ap (λ p. record { var = record { 0 = p + 1 }; positive = not e.complemented }) (place_stays nodes more e.node c)

-- two nodes at one place are one node
pub place_apart : (nodes : List ℕ) (a b : ℕ) → Contains nodes a → Contains nodes b → place_of nodes a ≡ place_of nodes b → a ≡ b
place_apart nodes a b ca cb e =
    same_Some a b (sym (place_stands nodes a ca) ∙ ap (slice_get nodes) e ∙ place_stands nodes b cb)

-- where no two nodes are equal, the node that stands at a place has that place
pub place_at : (nodes : List ℕ) (i : ℕ) → AllPairs (λ a b. a ≢ b) nodes → i < length nodes → place_of nodes (get_or nodes i 0) ≡ i
place_at nodes i once lt = elim (cases_eq p i) [ inl e ↦ e | inr ne ↦ absurd (by (ltb p i) refl ne) ]
  where
    k : ℕ
    k = get_or nodes i 0

    p : ℕ
    p = place_of nodes k

    stands_at : slice_get nodes p ≡ Some k
    stands_at = place_stands nodes k (Contains-get_or nodes i 0 lt)

    at : get_or nodes p 0 ≡ k
    at = get_or_from_slice_get nodes p k 0 stands_at

    by : (b : Bool) → ltb p i ≡ b → (p ≡ i → ⊥) → ⊥
    by true e ne = once p i 0 (ltb-true p i e) lt at
    by false e ne = once i p 0 (let le = ltb-false p i e in omega (arith, le, ne)) (slice_get_within nodes p k stands_at) (sym at)

-- what is between two lists stands at the first one's end
pub slice_at_end : {X : Type 0} (xs : List X) (y : X) (ys : List X) → slice_get (xs ++ y ∷ ys) (length xs) ≡ Some y
slice_at_end [] y ys = refl
slice_at_end (x ∷ xs) y ys = slice_at_end xs y ys

-- numbers of which no two are equal
pub distinct_apart : (xs : List ℕ) → IsDistinct eqb xs → AllPairs (λ i j. i ≢ j) xs
distinct_apart xs distinct i j d lt within e =
    true≢false (sym (eq-eqb (get_or xs i d) (get_or xs j d) e) ∙ apart_from_distinct eqb xs i j d distinct lt within)

pub distinct_back : (xs ys : List ℕ) → IsDistinct eqb (xs ++ ys) → IsDistinct eqb ys
distinct_back [] ys distinct = distinct
distinct_back (x ∷ xs) ys distinct = distinct_back xs ys (IsDistinct-tail eqb x (xs ++ ys) distinct)

-- what a test for the number finds
pub contained : (xs : List ℕ) (k : ℕ) → list_any (eqb k) xs ≡ true → Contains xs k
contained xs k e =
    let some = Any-from_list_any (eqb k) xs e in
    let same : k ≡ some.1 = eqb-true k some.1 some.4 in
    subst (Contains xs) (sym same) (some.0, some.2, some.3)

pub container : (xs : List ℕ) (k : ℕ) → Contains xs k → list_any (eqb k) xs ≡ true
container xs k c = list_any-from_Any (eqb k) xs (c.0, k, c.1, c.2, eq-eqb k k refl)
