-- Readers of lists with commas between.
use Rattle.std.proofs.lemmas.List.{append-nil}
use Rattle.std.proofs.lemmas.List.Folds.{list_all-append}
use Rattle.std.proofs.Common.{◌≡◌, ℕ, ◌≤◌, Bool, true, List, [], ◌∷◌, ◌++◌, length, refl, ap, sym, ◌∙◌, arith, append_assoc, length-append, Some, None}
use Rattle.std.specs.Prelude.{option_map, codes, ◌&&◌}
use Rattle.std.specs.List.{flat_map, list_all}
use Rattle.std.proofs.Math.Bool.{and-true}
use Rattle.eco_tokens.specs.Said.{Said}
use Rattle.eco_vread.specs.Grammar.{mark, commas, is_full}
use Rattle.eco_vread.specs.Fronts.{Found, repeated, element_at, list_at}
use Rattle.eco_vread.proofs.Readers.{IsReader, found_at, repeated_reader, spell_repeated, good_repeated}
use Rattle.eco_vread.proofs.Singles.{IsEnd, IsListed, spell_element, good_element, element_reader, pair_takes}

-- an element with a comma behind it
abbrev pub with_comma : {X : Type 0} → (X → List Said) → X → List Said
with_comma spell x = spell x ++ mark (codes ",") ∷ []

abbrev before_comma : {X : Type 0} → (X → List Said) → X → List Said
before_comma spell x = (mark (codes ",") ∷ []) ++ spell x

regrouped : (a : List Said) (c : Said) (f y : List Said) → a ++ (c ∷ (f ++ y)) ≡ ((a ++ c ∷ []) ++ f) ++ y
regrouped a c f y = simp append_assoc

-- commas before elements are commas behind them, but for the first and the last
shifted : {X : Type 0} (spell : X → List Said) (xs : List X) (y : X) → flat_map (before_comma spell) (xs ++ y ∷ []) ≡ mark (codes ",") ∷ (flat_map (with_comma spell) xs ++ spell y)
shifted spell [] y = ap (λ l. mark (codes ",") ∷ l) (append-nil (spell y))
shifted spell (x ∷ xs) y =
    ap (λ l. mark (codes ",") ∷ (spell x ++ l)) (shifted spell xs y)
    ∙ ap (λ l. mark (codes ",") ∷ l) (regrouped (spell x) (mark (codes ",")) (flat_map (with_comma spell) xs) (spell y))

-- a list by its last element
pub commas_last : {X : Type 0} (spell : X → List Said) (xs : List X) (y : X) → commas spell (xs ++ y ∷ []) ≡ flat_map (with_comma spell) xs ++ spell y
commas_last spell [] y = append-nil (spell y)
commas_last spell (x ∷ xs) y =
    ap (λ l. spell x ++ l) (shifted spell xs y) ∙ regrouped (spell x) (mark (codes ",")) (flat_map (with_comma spell) xs) (spell y)

-- how a list is written, with the mark that ends it
abbrev pub spell_list : {X : Type 0} → (X → List Said) → List ℕ → List X → List Said
spell_list spell end xs = commas spell xs ++ mark end ∷ []

abbrev pub good_list : {X : Type 0} → (X → Bool) → List X → Bool
good_list good xs = is_full xs && list_all good xs

snoc_full : {X : Type 0} (xs : List X) (y : X) → is_full (xs ++ y ∷ []) ≡ true
snoc_full [] y = refl
snoc_full (x ∷ xs) y = refl

-- a list of steps is a list with commas
spelled_same : {X : Type 0} (spell : X → List Said) (end : List ℕ) (xs : List X) (y : X) → spell_repeated (spell_element spell end) (xs, y) ≡ spell_list spell end (xs ++ y ∷ [])
spelled_same spell end xs y =
    sym (append_assoc (flat_map (with_comma spell) xs) (spell y) (mark end ∷ []))
    ∙ ap (λ l. l ++ mark end ∷ []) (sym (commas_last spell xs y))

good_same : {X : Type 0} (good : X → Bool) (xs : List X) (y : X) → good_repeated (good_element good) (xs, y) ≡ good_list good (xs ++ y ∷ [])
good_same good xs y =
    ap (λ b. list_all good xs && b) (sym (and-true (good y)))
    ∙ sym (list_all-append good xs (y ∷ [])) ∙ ap (λ b. b && list_all good (xs ++ y ∷ [])) (sym (snoc_full xs y))

-- a list that is not empty, by its last element
by_last : {X : Type 0} {P : Type 0} (x : X) (xs : List X) → ((front : List X) (y : X) → x ∷ xs ≡ front ++ y ∷ [] → P) → P
by_last x [] f = f [] x refl
by_last x (z ∷ zs) f = by_last z zs (λ front y e. f (x ∷ front) y (ap (λ l. x ∷ l) e))

list_parts : {X : Type 0} (spell : X → List Said) (good : X → Bool) (end : List ℕ) (ts us : List Said) (xs : List X) (o : Found (List X × X)) → ((vs : List Said) (r : List X × X) → o ≡ Some (r, vs) → (ts ≡ spell_repeated (spell_element spell end) r ++ vs) × (good_repeated (good_element good) r ≡ true)) → option_map {U = List X × List Said} (λ r. (r.0.0 ++ r.0.1 ∷ [], r.1)) o ≡ Some (xs, us) → (ts ≡ spell_list spell end xs ++ us) × (good_list good xs ≡ true)
list_parts spell good end ts us xs None f h = absurd (cc)
list_parts spell good end ts us xs (Some found) f h =
    let w = f found.1 found.0 refl in
    let g : good_list good (found.0.0 ++ found.0.1 ∷ []) ≡ true = sym (good_same good found.0.0 found.0.1) ∙ w.1 in
    let v = pair_takes (spell_list spell end) (good_list good) (found.0.0 ++ found.0.1 ∷ []) xs found.1 us g h in
    (w.0 ∙ ap (λ l. l ++ found.1) (spelled_same spell end found.0.0 found.0.1) ∙ v.0, v.1)

list_takes : {X : Type 0} (read : List Said → Found X) (spell : X → List Said) (good : X → Bool) (end : List ℕ) → IsListed read spell good end → IsEnd end → (ts us : List Said) (xs : List X) → list_at read end ts ≡ Some (xs, us) → (ts ≡ spell_list spell end xs ++ us) × (good_list good xs ≡ true)
unfolding list_at
list_takes read spell good end is mark ts us xs h =
    let r = repeated_reader (element_at read end) (spell_element spell end) (good_element good) (element_reader read spell good end is mark) in
    list_parts spell good end ts us xs (repeated (element_at read end) ts) (λ vs q. r.takes ts vs q) h

list_again_last : {X : Type 0} (read : List Said → Found X) (spell : X → List Said) (good : X → Bool) (end : List ℕ) → IsListed read spell good end → IsEnd end → (us : List Said) (front : List X) (y : X) (xs : List X) → xs ≡ front ++ y ∷ [] → good_list good xs ≡ true → list_at read end (spell_list spell end xs ++ us) ≡ Some (xs, us)
unfolding list_at
list_again_last read spell good end is mark us front y xs e g =
    let r = repeated_reader (element_at read end) (spell_element spell end) (good_element good) (element_reader read spell good end is mark) in
    let h : good_repeated (good_element good) (front, y) ≡ true = good_same good front y ∙ ap (good_list good) (sym e) ∙ g in
    ap (λ l. list_at read end (spell_list spell end l ++ us)) e
    ∙ ap (λ l. list_at read end (l ++ us)) (sym (spelled_same spell end front y))
    ∙ ap (option_map (λ r. (r.0.0 ++ r.0.1 ∷ [], r.1))) (r.again us (front, y) h)
    ∙ ap (λ l. found_at l us) (sym e)

list_again : {X : Type 0} (read : List Said → Found X) (spell : X → List Said) (good : X → Bool) (end : List ℕ) → IsListed read spell good end → IsEnd end → (us : List Said) (xs : List X) → good_list good xs ≡ true → list_at read end (spell_list spell end xs ++ us) ≡ Some (xs, us)
list_again read spell good end is mark us [] g = absurd (cc)
list_again read spell good end is mark us (x ∷ xs) g =
    by_last x xs (λ front y e. list_again_last read spell good end is mark us front y (x ∷ xs) e g)

list_some : {X : Type 0} (spell : X → List Said) (end : List ℕ) (xs : List X) → 1 ≤ length (spell_list spell end xs)
list_some spell end xs = omega (arith, length-append (commas spell xs) (mark end ∷ []))

pub list_reader : {X : Type 0} (read : List Said → Found X) (spell : X → List Said) (good : X → Bool) (end : List ℕ) → IsListed read spell good end → IsEnd end → IsReader (list_at read end) (spell_list spell end) (good_list good)
list_reader read spell good end is mark = record {
  takes = list_takes read spell good end is mark;
  again = list_again read spell good end is mark;
  some = list_some spell end;
}
