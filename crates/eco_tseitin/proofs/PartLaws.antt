-- Clauses in two parts by their marks, and valuations that are put together of three.
use Rattle.std.proofs.Common.{◌≡◌, ℕ, zero, suc, ◌+◌, ◌-◌, ◌<◌, Bool, true, false, cond, leb, List, [], ◌∷◌, ◌++◌, Some, length, get_or, map, refl, sym, ◌∙◌, ap, subst, arith}
use Rattle.std.specs.List.{slice_get, Contains}
use Rattle.std.specs.Option.{option_map}
use Rattle.std.proofs.lemmas.Bool.{true≢false, le-leb, lt-leb}
use Rattle.std.proofs.lemmas.List.{length-map}
use Rattle.std.proofs.lemmas.List.Elements.{All-contains, Contains-get_or}
use Rattle.std.proofs.lemmas.Option.{slice_get-map, slice_get-get_or, same_Some}
use Rattle.eco_lists.proofs.Members.{Contains_first, Contains_later}
use Rattle.eco_lists.proofs.Places.{Contains_at, place_of, item_at, same_by_places, slice_get-append_left, slice_get-back}
use Rattle.eco_trace.specs.declared.clause.Lit.{Lit}
use Rattle.eco_trace.specs.declared.clause.Var.{Var}
use Rattle.eco_trace.specs.Clauses.{Valuation, HoldsIn, Satisfies}
use Rattle.eco_trace.specs.Split.{Split, BelongsTo, IsModelOf}
use Rattle.eco_tseitin.specs.Reading.{read_vars}
use Rattle.eco_trace.specs.Adding.{behind}
use Rattle.eco_tseitin.specs.Joined.{AreNumbered}
use Rattle.eco_trace.proofs.HoldingLaws.{AgreeUpTo}

-- a mark for each clause
abbrev pub marked : Bool → List (List Lit) → List Bool
marked mark clauses = map (λ clause. mark) clauses

-- the mark at the place of a clause
mark_here : (mark : Bool) (clauses : List (List Lit)) (k : ℕ) (clause : List Lit) → slice_get clauses k ≡ Some clause → slice_get (marked mark clauses) k ≡ Some mark
mark_here mark clauses k clause at = slice_get-map (λ c. mark) clauses k ∙ ap (option_map (λ c. mark)) at

-- what is marked `true` stands in the front, and the other way round
in_front : (own others : List (List Lit)) (k : ℕ) (clause : List Lit) → slice_get (own ++ others) k ≡ Some clause → slice_get (marked true own ++ marked false others) k ≡ Some true → Contains own clause
in_front [] others k clause at mark = absurd (true≢false (sym (same_Some false true (sym (mark_here false others k clause at) ∙ mark))))
in_front (c ∷ own) others zero clause at mark = subst (Contains (c ∷ own)) (same_Some c clause at) (Contains_first c own)
in_front (c ∷ own) others (suc k) clause at mark = Contains_later c clause own (in_front own others k clause at mark)

in_back : (own others : List (List Lit)) (k : ℕ) (clause : List Lit) → slice_get (own ++ others) k ≡ Some clause → slice_get (marked true own ++ marked false others) k ≡ Some false → Contains others clause
in_back [] others k clause at mark = Contains_at others k clause at
in_back (c ∷ own) others zero clause at mark = absurd (true≢false (same_Some true false mark))
in_back (c ∷ own) others (suc k) clause at mark = in_back own others k clause at mark

-- the clauses and marks of a split, in order
pub record AreParts (split : Split) (own others : List (List Lit)) : Type 0 where
  pub clauses : split.clauses ≡ own ++ others
  pub marks : split.marks ≡ marked true own ++ marked false others

pub belongs_first : (split : Split) (own others : List (List Lit)) (clause : List Lit) → AreParts split own others → BelongsTo split true clause → Contains own clause
belongs_first split own others clause is b =
    in_front own others b.0 clause (ap (λ list. slice_get list b.0) (sym is.clauses) ∙ b.1) (ap (λ list. slice_get list b.0) (sym is.marks) ∙ b.2)

pub belongs_second : (split : Split) (own others : List (List Lit)) (clause : List Lit) → AreParts split own others → BelongsTo split false clause → Contains others clause
belongs_second split own others clause is b =
    in_back own others b.0 clause (ap (λ list. slice_get list b.0) (sym is.clauses) ∙ b.1) (ap (λ list. slice_get list b.0) (sym is.marks) ∙ b.2)

first_belongs : (split : Split) (own others : List (List Lit)) (clause : List Lit) → AreParts split own others → Contains own clause → BelongsTo split true clause
first_belongs split own others clause is c =
    let place = place_of own clause c in (
      place.0,
      ap (λ list. slice_get list place.0) is.clauses ∙ slice_get-append_left own others place.0 clause place.1,
      ap (λ list. slice_get list place.0) is.marks ∙ slice_get-append_left (marked true own) (marked false others) place.0 true (mark_here true own place.0 clause place.1),
    )

second_belongs : (split : Split) (own others : List (List Lit)) (clause : List Lit) → AreParts split own others → Contains others clause → BelongsTo split false clause
second_belongs split own others clause is c =
    let place = place_of others clause c in
    let k = length own + place.0 in (
      k,
      ap (λ list. slice_get list k) is.clauses ∙ slice_get-back own others k place.0 refl ∙ place.1,
      ap (λ list. slice_get list k) is.marks ∙ slice_get-back (marked true own) (marked false others) k place.0 (ap (λ n. n + place.0) (sym (length-map own (λ c. true)))) ∙ mark_here false others place.0 clause place.1,
    )

-- the models of each part
pub first_model : (split : Split) (own others : List (List Lit)) (v : Valuation) → AreParts split own others → IsModelOf split true v → Satisfies v own
first_model split own others v is model k d lt =
    let c = get_or own k d in
    model c (first_belongs split own others c is (Contains-get_or own k d lt))

pub second_model : (split : Split) (own others : List (List Lit)) (v : Valuation) → AreParts split own others → IsModelOf split false v → Satisfies v others
second_model split own others v is model k d lt =
    let c = get_or others k d in
    model c (second_belongs split own others c is (Contains-get_or others k d lt))

pub model_of_first : (split : Split) (own others : List (List Lit)) (v : Valuation) → AreParts split own others → Satisfies v own → IsModelOf split true v
model_of_first split own others v is holds clause b = All-contains (HoldsIn v) own clause holds (belongs_first split own others clause is b)

pub model_of_second : (split : Split) (own others : List (List Lit)) (v : Valuation) → AreParts split own others → Satisfies v others → IsModelOf split false v
model_of_second split own others v is holds clause b = All-contains (HoldsIn v) others clause holds (belongs_second split own others clause is b)

-- the first valuation for the variables up to n, then these bits, then the last one from n + k on
pub put_together : ℕ → ℕ → Valuation → List Bool → Valuation → Valuation
put_together n k front middle back x =
    cond (leb x n) (front x) (cond (leb x (n + k)) (get_or middle (x - (n + 1)) false) (back (x - (n + k))))

pub together_front : (n k : ℕ) (front back : Valuation) (middle : List Bool) → AgreeUpTo n front (put_together n k front middle back)
unfolding put_together
together_front n k front back middle x first last =
    ap (λ b. cond b (front x) (cond (leb x (n + k)) (get_or middle (x - (n + 1)) false) (back (x - (n + k))))) (sym (le-leb x n last))

pub together_back : (n k last : ℕ) (front back : Valuation) (middle : List Bool) → AgreeUpTo last back (behind (n + k) (put_together n k front middle back))
unfolding put_together
together_back n k last front back middle x first within =
    let y = x + (n + k) in
    let later : leb y n ≡ false = lt-leb y n (omega (arith, first)) in
    let behind : leb y (n + k) ≡ false = lt-leb y (n + k) (omega (arith, first)) in
    let same : y - (n + k) ≡ x = omega arith in
    sym (ap (λ b. cond b (front y) (cond (leb y (n + k)) (get_or middle (y - (n + 1)) false) (back (y - (n + k))))) later ∙ ap (λ b. cond b (get_or middle (y - (n + 1)) false) (back (y - (n + k)))) behind ∙ ap back same)

-- the bits between
pub together_middle : (n k : ℕ) (front back : Valuation) (middle : List Bool) (vars : List Var) → AreNumbered n k vars → length middle ≡ k → read_vars (put_together n k front middle back) vars ≡ middle
unfolding put_together
together_middle n k front back middle vars are count =
    same_by_places (read_vars v vars) middle (length-map vars (λ x. v x.0) ∙ are.count_is ∙ sym count) (λ i lt.
    let item = item_at vars i (omega (arith, lt, length-map vars (λ x. v x.0))) in
    let number : item.0.0 ≡ n + 1 + i = are.numbers i item.0 item.1 in
    slice_get-map (λ x. v x.0) vars i ∙ ap (option_map (λ x. v x.0)) item.1 ∙ ap Some (ap v number ∙ here i (omega (arith, lt, length-map vars (λ x. v x.0), are.count_is))) ∙ sym (slice_get-get_or middle i false (omega (arith, lt, length-map vars (λ x. v x.0), are.count_is, count))))
  where
    v : Valuation
    v = put_together n k front middle back

    here : (i : ℕ) → i < k → put_together n k front middle back (n + 1 + i) ≡ get_or middle i false
    here i lt =
        let y = n + 1 + i in
        let later : leb y n ≡ false = lt-leb y n (omega arith) in
        let within : leb y (n + k) ≡ true = le-leb y (n + k) (omega (arith, lt)) in
        let same : y - (n + 1) ≡ i = omega arith in
        ap (λ b. cond b (front y) (cond (leb y (n + k)) (get_or middle (y - (n + 1)) false) (back (y - (n + k))))) later ∙ ap (λ b. cond b (get_or middle (y - (n + 1)) false) (back (y - (n + k)))) within ∙ ap (λ j. get_or middle j false) same
