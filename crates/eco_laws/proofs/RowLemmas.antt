-- How many rows of bits there are, and how many a list doesn't have: proofs.
use Rattle.std.proofs.Common.{◌≡◌, ◌≢◌, ◌⊎◌, inl, inr, ℕ, zero, suc, ◌+◌, ◌^◌, Bool, true, false, not, ◌||◌, cond, List, [], ◌∷◌, ◌++◌, length, Decides, refl, sym, ◌∙◌, ap, arith, subst}
use Rattle.std.specs.List.{All, AllPairs, Contains}
use Rattle.std.specs.Cmp.{booleans_Decides, bool_eq_equiv}
use Rattle.std.specs.Cmp.Lexicographic.{pointwise, lists_equiv}
use Rattle.std.proofs.Math.Nat.{two-pow-succ}
use Rattle.std.proofs.lemmas.Bool.{false_from_ne_true, false≢true, cases_Bool}
use Rattle.std.proofs.lemmas.List.Elements.{All-head, All-tail}
use Rattle.std.proofs.lemmas.List.Folds.{list_any-append}
use Rattle.std.proofs.lemmas.Map.Views.{Contains-from_any, list_any-from_Contains}
use Rattle.std.proofs.lemmas.Slice.Eq.{slice_eq-Decides}
use Rattle.eco_lists.proofs.Places.{Contains_at, pairs_push}
use Rattle.eco_lists.proofs.Members.{AllPairs-tail, AllPairs-head}
use mathlib.Core.Bool.{beq}
use Rattle.eco_laws.specs.Rows.{has_row, count_rows, missing, AllAreMissing, OneLessIsMissing, ListedChangesNothing, NewPairsRunOut, DistinctRowsAreFew, RowsStayDistinct}

-- equal rows by the test
rows_decide : (a b : List Bool) → Decides (pointwise beq a b) (a ≡ b)
rows_decide a b = slice_eq-Decides booleans_Decides a b (pointwise beq a b) refl

not_listed : (rows : List (List Bool)) (row : List Bool) → (Contains rows row → ⊥) → has_row rows row ≡ false
not_listed rows row absent =
    false_from_ne_true (has_row rows row) (λ found. absent (Contains-from_any (λ a b. (rows_decide a b).0) row rows found))

-- tests that agree count the same
count_agree : (n : ℕ) (test other : List Bool → Bool) → ((row : List Bool) → test row ≡ other row) → count_rows n test ≡ count_rows n other
unfolding count_rows
count_agree zero test other agree = ap (λ bit. cond bit 1 0) (agree [])
count_agree (suc n) test other agree =
    let low = count_agree n (λ row. test (false ∷ row)) (λ row. other (false ∷ row)) (λ row. agree (false ∷ row)) in
    let high = count_agree n (λ row. test (true ∷ row)) (λ row. other (true ∷ row)) (λ row. agree (true ∷ row)) in
    cc

-- a test that one row of those less passes counts one less
count_less : (n : ℕ) (test other : List Bool → Bool) (row : List Bool) → length row ≡ n → test row ≡ true → other row ≡ false → ((b : List Bool) → b ≢ row → other b ≡ test b) → count_rows n test ≡ count_rows n other + 1
unfolding count_rows
count_less zero test other [] len passes fails agree = rw (passes, fails)
count_less zero test other (bit ∷ row) len passes fails agree = absurd (omega arith)
count_less (suc n) test other [] len passes fails agree = absurd (omega arith)
count_less (suc n) test other (false ∷ row) len passes fails agree =
    let low = count_less n (λ b. test (false ∷ b)) (λ b. other (false ∷ b)) row (omega arith) passes fails (λ b differs. agree (false ∷ b) (λ same. differs cc)) in
    let high = count_agree n (λ b. test (true ∷ b)) (λ b. other (true ∷ b)) (λ b. sym (agree (true ∷ b) (λ same. absurd cc))) in
    omega arith
count_less (suc n) test other (true ∷ row) len passes fails agree =
    let low = count_agree n (λ b. test (false ∷ b)) (λ b. other (false ∷ b)) (λ b. sym (agree (false ∷ b) (λ same. absurd cc))) in
    let high = count_less n (λ b. test (true ∷ b)) (λ b. other (true ∷ b)) row (omega arith) passes fails (λ b differs. agree (true ∷ b) (λ same. differs cc)) in
    omega arith

all_count : (n : ℕ) → count_rows n (λ row. true) ≡ 2 ^ n
unfolding count_rows
all_count zero = refl
all_count (suc n) = let rest = all_count n in omega (arith, two-pow-succ n)

pub all_missing : AllAreMissing
unfolding missing
all_missing n = all_count n

-- one more row by the test is one less that is missing
one_more : (n : ℕ) (rows more : List (List Bool)) (row : List Bool) → length row ≡ n → (Contains rows row → ⊥) → ((b : List Bool) → has_row more b ≡ (pointwise beq b row || has_row rows b)) → missing n rows ≡ missing n more + 1
unfolding missing
one_more n rows more row len absent listed =
    count_less n (λ b. not (has_row rows b)) (λ b. not (has_row more b)) row len (ap not (not_listed rows row absent))
    (ap not (listed row ∙ ap (λ bit. bit || has_row rows row) ((rows_decide row row).1 refl)))
    (λ b differs.
    ap not (listed b ∙ ap (λ bit. bit || has_row rows b) (false_from_ne_true (pointwise beq b row) (λ same. differs ((rows_decide b row).0 same)))))

-- a row at the end or at the front is listed alike
has_pushed : (rows : List (List Bool)) (row b : List Bool) → has_row (rows ++ row ∷ []) b ≡ (pointwise beq b row || has_row rows b)
has_pushed rows row b = list_any-append (pointwise beq b) rows (row ∷ []) ∙ swap (has_row rows b) (pointwise beq b row)
  where
    swap : (x y : Bool) → (x || (y || false)) ≡ (y || x)
    swap true true = refl
    swap true false = refl
    swap false true = refl
    swap false false = refl

pub one_less : OneLessIsMissing
one_less n rows row len absent = one_more n rows (rows ++ row ∷ []) row len absent (has_pushed rows row)

pub listed_same : ListedChangesNothing
unfolding missing
listed_same n rows row listed =
    count_agree n (λ b. not (has_row (rows ++ row ∷ []) b)) (λ b. not (has_row rows b))
    (λ b. ap not (has_pushed rows row b ∙ absorbed (pointwise beq b row) (has_row rows b) (λ same. is_listed b ((rows_decide b row).0 same))))
  where
    is_listed : (b : List Bool) → b ≡ row → has_row rows b ≡ true
    is_listed b same = list_any-from_Contains (lists_equiv bool_eq_equiv) b rows (subst (Contains rows) (sym same) listed)

    absorbed : (x y : Bool) → (x ≡ true → y ≡ true) → (x || y) ≡ y
    absorbed true y into = sym (into refl)
    absorbed false y into = refl

-- the list has the row or not
cases_row : (rows : List (List Bool)) (row : List Bool) → Contains rows row ⊎ (Contains rows row → ⊥)
cases_row rows row =
    elim (cases_Bool (has_row rows row)) [
      | inl found ↦ inl (Contains-from_any (λ a b. (rows_decide a b).0) row rows found)
      | inr none ↦ inr (λ listed. false≢true (sym none ∙ list_any-from_Contains (lists_equiv bool_eq_equiv) row rows listed))
    ]

pub new_pairs_run_out : NewPairsRunOut
new_pairs_run_out n ones zeros row other len_one len_zero new =
    elim (cases_row ones row) [
      | inl one_listed ↦
          let same = listed_same n ones row one_listed in
          let less = one_less n zeros other len_zero (new one_listed) in
          omega arith
      | inr one_new ↦
          let less = one_less n ones row len_one one_new in
          elim (cases_row zeros other) [
            | inl zero_listed ↦ let same = listed_same n zeros other zero_listed in omega arith
            | inr zero_new ↦ let also = one_less n zeros other len_zero zero_new in omega arith
          ]
    ]

-- what is listed and what is missing are all rows
listed_and_missing : (n : ℕ) (rows : List (List Bool)) → All (λ row. length row ≡ n) rows → AllPairs (λ a b. a ≢ b) rows → length rows + missing n rows ≡ 2 ^ n
listed_and_missing n [] long distinct = omega (arith, all_missing n)
listed_and_missing n (row ∷ rows) long distinct =
    let rest = listed_and_missing n rows (All-tail (λ row. length row ≡ n) row rows long) (AllPairs-tail (λ a b. a ≢ b) row rows distinct) in
    let less = one_more n rows (row ∷ rows) row (All-head (λ row. length row ≡ n) row rows long) (λ among. AllPairs-head (λ a b. a ≢ b) row rows distinct row among refl) (λ b. refl) in
    omega arith

pub distinct_few : DistinctRowsAreFew
distinct_few n rows long distinct = omega (arith, listed_and_missing n rows long distinct)

pub stay_distinct : RowsStayDistinct
stay_distinct rows row distinct absent =
    pairs_push (λ a b. a ≢ b) rows row distinct (λ k other at same. absent (subst (Contains rows) same (Contains_at rows k other at)))
