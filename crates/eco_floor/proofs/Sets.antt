-- Sums over sets of columns, and whether a set has a column.
use Rattle.std.proofs.Common.{◌≡◌, ◌≢◌, ◌⊎◌, inl, inr, ℕ, ◌+◌, ◌<◌, ◌≤◌, Bool, true, false, List, [], ◌∷◌, length, get_or, Some, refl, sym, ◌∙◌, ap, subst, arith}
use Rattle.std.specs.List.{slice_get, Contains}
use Rattle.std.proofs.lemmas.Bool.{cases_eq, cases_lt, true≢false}
use Rattle.std.proofs.lemmas.List.Elements.{Contains-append_left, Contains-append_right, Contains-append_cases}
use Rattle.std.proofs.lemmas.Option.{slice_get-get_or, same_Some}
use Rattle.std.proofs.Math.Bool.{beq, not}
use Rattle.eco_lists.proofs.Tests.{beq_same, beq_own}
use Rattle.eco_lists.proofs.Members.{Contains_first, Contains_later, Contains_cases, Contains_none, only_one}
use Rattle.eco_floor.specs.Rows.{IsSetOf, AddsIf}
use Rattle.eco_floor.specs.Sets.{Hits, total}

-- lesser amounts have a lesser sum
pub total_less : (less more : ℕ → ℕ) (set : List ℕ) → ((column : ℕ) → less column ≤ more column) → total less set ≤ total more set
total_less less more [] by = omega arith
total_less less more (column ∷ set) by = omega (arith, by column, total_less less more set by)

-- where the set has a column whose amount is less by so much, the sum is less by as much
pub total_paid : (less more : ℕ → ℕ) (set : List ℕ) (column amount : ℕ) → ((column : ℕ) → less column ≤ more column) → Contains set column → less column + amount ≤ more column → total less set + amount ≤ total more set
total_paid less more [] column amount by in' paid = absurd (Contains_none column in')
total_paid less more (first ∷ set) column amount by in' paid =
    elim (Contains_cases first column set in') [
      | inl same ↦
          let paid_here : less first + amount ≤ more first = subst (λ n. less n + amount ≤ more n) (sym same) paid in
          omega (arith, paid_here, total_less less more set by)
      | inr later ↦ omega (arith, by first, total_paid less more set column amount by later paid)
    ]

-- a set has a column or not
pub has_or_not : (set : List ℕ) (column : ℕ) → Contains set column ⊎ (Contains set column → ⊥)
has_or_not [] column = inr (λ in'. Contains_none column in')
has_or_not (first ∷ set) column =
    elim (cases_eq first column) [
      | inl same ↦ inl (subst (λ n. Contains (first ∷ set) n) same (Contains_first first set))
      | inr unlike ↦
          elim (has_or_not set column) [
            | inl later ↦ inl (Contains_later first column set later)
            | inr none ↦
                inr (λ in'. elim (Contains_cases first column set in') [ inl same ↦ absurd (unlike same) | inr later ↦ none later ])
          ]
    ]

-- the columns so far that have the property, and this one if it has it
pub set_grows : (Has : ℕ → Type 0) (old new : List ℕ) (column : ℕ) (is : Bool) → (is ≡ true → Has column) → (Has column → is ≡ true) → AddsIf old new column is → IsSetOf (λ c. (c < column) × Has c) old → IsSetOf (λ c. (c < column + 1) × Has c) new
set_grows Has old new column true to back adds are = record {
  only = λ c in'. elim (Contains-append_cases old (column ∷ []) c (subst (λ list. Contains list c) adds in')) [
    | inl before ↦ let (below, has) = are.only c before in (omega (arith, below), has)
    | inr last ↦ let same = only_one column c last in (omega (arith, same), subst Has same (to refl))
  ];
  all = λ c (below, has). subst (λ list. Contains list c) (sym adds) (elim (cases_lt c column) [
    | inl less ↦ Contains-append_left old (column ∷ []) c (are.all c (less, has))
    | inr most ↦
        let same : column ≡ c = omega (arith, below, most) in
        Contains-append_right old (column ∷ []) c (subst (λ n. Contains (column ∷ []) n) same (Contains_first column []))
  ]);
}
set_grows Has old new column false to back adds are = record {
  only = λ c in'. let (below, has) = are.only c (subst (λ list. Contains list c) adds in') in (omega (arith, below), has);
  all = λ c (below, has). subst (λ list. Contains list c) (sym adds) (elim (cases_lt c column) [
    | inl less ↦ are.all c (less, has)
    | inr most ↦
        let same : c ≡ column = omega (arith, below, most) in
        let wrong : false ≡ true = back (subst Has same has) in
        absurd (cc)
  ]);
}

-- where each column that has the property is below the bound, the columns below it that have it are all
pub set_is_whole : (Has : ℕ → Type 0) (columns : List ℕ) (bound : ℕ) → ((c : ℕ) → Has c → c < bound) → IsSetOf (λ c. (c < bound) × Has c) columns → IsSetOf Has columns
set_is_whole Has columns bound below are = record {
  only = λ c in'. (are.only c in').1;
  all = λ c has. are.all c (below c has, has);
}

-- two bits that differ, at places of two rows
pub bits_differ : (one zero : List Bool) (k : ℕ) → k < length one → k < length zero → not (beq (get_or one k false) (get_or zero k false)) ≡ true → slice_get one k ≢ slice_get zero k
bits_differ one zero k one_in zero_in unlike same =
    let equal : get_or one k false ≡ get_or zero k false = same_Some (get_or one k false) (get_or zero k false) (sym (slice_get-get_or one k false one_in) ∙ same ∙ slice_get-get_or zero k false zero_in) in
    true≢false (sym unlike ∙ ap (λ b. not (beq (get_or one k false) b)) (sym equal) ∙ ap not (beq_own (get_or one k false)))

pub differ_bits : (one zero : List Bool) (k : ℕ) → k < length one → k < length zero → slice_get one k ≢ slice_get zero k → not (beq (get_or one k false) (get_or zero k false)) ≡ true
differ_bits one zero k one_in zero_in unlike =
    by (beq (get_or one k false) (get_or zero k false)) refl
  where
    by : (b : Bool) → beq (get_or one k false) (get_or zero k false) ≡ b → not b ≡ true
    by true e = absurd (unlike (slice_get-get_or one k false one_in ∙ ap Some (beq_same (get_or one k false) (get_or zero k false) e) ∙ sym (slice_get-get_or zero k false zero_in)))
    by false e = refl

-- a set has a column of the row, or none
pub hits_or : (set row : List ℕ) → Hits set row ⊎ ((column : ℕ) → Contains set column → Contains row column → ⊥)
hits_or [] row = inr (λ column c in_row. Contains_none column c)
hits_or (first ∷ set) row =
    elim (has_or_not row first) [
      | inl here ↦ inl (record { column = first; in_set = Contains_first first set; in_row = here })
      | inr absent ↦ elim (hits_or set row) [
        | inl hits ↦ inl (record { column = hits.column; in_set = Contains_later first hits.column set hits.in_set; in_row = hits.in_row })
        | inr never ↦ inr (λ column c in_row. elim (Contains_cases first column set c) [
          | inl same ↦ absent (subst (Contains row) (sym same) in_row)
          | inr later ↦ never column later in_row
        ])
      ]
    ]
