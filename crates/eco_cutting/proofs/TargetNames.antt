-- Targets by their numbers, and the free ones of those below a number.
use Rattle.std.proofs.Common.{◌≡◌, ◌≢◌, inl, inr, ℕ, ◌+◌, ◌<◌, ◌≤◌, true, not, ◌&&◌, ◌||◌, List, [], nat_le, length, take, drop, map, get_or, refl, ap, sym, ◌∙◌, subst, arith}
use Rattle.std.specs.Prelude.{fold, codes, decimal, ◌==◌}
use Rattle.std.specs.List.{list_all, slice_index_or, range_with_len, All, AllPairs, Contains}
use Rattle.std.specs.List.Sorted.{IsStrictlyIncreasing}
use Rattle.std.specs.Str.{bytes_eq}
use Rattle.std.proofs.lemmas.Bool.{and_from, le-leb, leb-true, cases_lt, not-true, not_from_false, ne_eqb}
use Rattle.std.proofs.lemmas.Bool.Decides.{nat_tests}
use Rattle.std.proofs.lemmas.Fmt.{decimal_digit, decimal_nonempty, digits_decimal, first_decimal, length-decimal-le}
use Rattle.std.proofs.lemmas.Grind.{get_or_default_zero}
use Rattle.std.proofs.lemmas.List.{get_or-map, length-map}
use Rattle.std.proofs.lemmas.List.Elements.{All-contains, Contains-get_or}
use Rattle.std.proofs.lemmas.List.FromFn.{get_or-map-range_with_len, length-map-range_with_len}
use Rattle.std.proofs.lemmas.List.Kept.{AllPairs-filter}
use Rattle.std.proofs.lemmas.Str.Parse.{IsDigitsTest, IsNumeralModel, numerals_by_fold, digits_value_short}
use Rattle.eco_lists.proofs.Members.{Contains-map, map-Contains, Contains-filter, filter-Contains}
use Rattle.eco_lists.proofs.Ranges.{range_member, member_of_range}
use Rattle.eco_lists.proofs.Tests.{both}
use Rattle.eco_meaning.specs.Circuit.{Circuit, names}
use Rattle.eco_meaning.specs.Names.{has, is_digit, is_numeral, number_of, is_target_text, target_number}
use Rattle.eco_meaning.proofs.Decimals.{digit_on}
use Rattle.eco_laws.proofs.Members.{few_names}
use Rattle.eco_netlist.proofs.NameSets.{has-from_absent, absent_from_has}
use Rattle.eco_netlist.proofs.NumeralLemmas.{same_target}
use Rattle.eco_text.proofs.NumberedNames.{number_of-decimal}
use Rattle.eco_cutting.specs.NewNames.{target_name, is_free, free_below, IsFreeTarget, AreFewerFree, AreLeastFree}

-- digits by the test, and the number that they spell
digits_test : IsDigitsTest (λ ds. list_all is_digit ds ≡ true)
digits_test = record {
  empty = refl;
  parts = λ c cs e.
      let (digit, rest) = both (is_digit c) (list_all is_digit cs) e in
      let (low, high) = both (nat_le 48 c) (nat_le c 57) digit in
      ((leb-true 48 c low, leb-true c 57 high), rest);
  more = λ c cs range rest. and_from _ _ (and_from _ _ (le-leb 48 c range.0) (le-leb c 57 range.1)) rest;
}

numerals : IsNumeralModel (λ ds. list_all is_digit ds ≡ true) number_of
numerals = numerals_by_fold (λ ds. list_all is_digit ds ≡ true) digits_test (λ n ds. fold digit_on n ds) (record {
  empty = λ n. refl;
  more = λ n c cs range. ap (λ m. fold digit_on m cs) (omega arith);
})

-- the first digit is no needless zero
first_digit : (n : ℕ) → n < 1000000000 → (length (decimal n) == 1 || not (slice_index_or (decimal n) 0 48 == 48)) ≡ true
first_digit n small =
    elim (cases_lt n 10) [
      | inl one ↦ ap (λ ds. length ds == 1 || not (slice_index_or ds 0 48 == 48)) (decimal_digit n one)
      | inr more ↦
          let first = first_decimal n (omega arith) (omega arith) in
          let same = get_or_default_zero (decimal n) 0 48 (decimal_nonempty n (omega arith)) in
          let other = ne_eqb (slice_index_or (decimal n) 0 48) 48 (λ e. omega (arith, first, same, e)) in
          grind (arith, nat_tests, other)
    ]

-- the numbers below 10^9 have targets' names
pub target_text : (n : ℕ) → n < 1000000000 → is_target_text (target_name n) ≡ true
target_text n small =
    let digits = digits_decimal numerals n (omega arith) in
    let some = le-leb 1 (length (decimal n)) (decimal_nonempty n (omega arith)) in
    let few = le-leb (length (decimal n)) 9 (length-decimal-le 9 n (omega arith) (omega arith) (omega arith)) in
    and_from _ _ (and_from _ _ (and_from _ _ digits some) few) (first_digit n small)

pub number_of_target : (n : ℕ) → n < 1000000000 → target_number (target_name n) ≡ n
number_of_target n small = number_of-decimal n (omega arith)

-- and no other name is one
pub target_bound : (name : List ℕ) → is_target_text name ≡ true → target_number name < 1000000000
target_bound name text =
    let (front, numeral) = both (bytes_eq (take 2 name) (codes "t_")) (is_numeral (drop 2 name)) text in
    let ds = drop 2 name in
    let (outer, first) = both (list_all is_digit ds && nat_le 1 (length ds) && nat_le (length ds) 9) (length ds == 1 || not (slice_index_or ds 0 48 == 48)) numeral in
    let (inner, few) = both (list_all is_digit ds && nat_le 1 (length ds)) (nat_le (length ds) 9) outer in
    let (digits, some) = both (list_all is_digit ds) (nat_le 1 (length ds)) inner in
    digits_value_short numerals ds 9 digits (leb-true (length ds) 9 few)

pub target_by_number : (name : List ℕ) → is_target_text name ≡ true → target_name (target_number name) ≡ name
target_by_number name text =
    let small = target_bound name text in
    same_target (target_name (target_number name)) name (target_text (target_number name) small) text (number_of_target (target_number name) small)

-- free targets are among those below each greater number
pub free_there : (f : Circuit) (n : ℕ) (name : List ℕ) → IsFreeTarget f name → target_number name < n → Contains (free_below f n) name
free_there f n name is below =
    Contains-filter (is_free f) (map target_name (range_with_len 0 n)) name
    (subst (Contains (map target_name (range_with_len 0 n))) (target_by_number name is.text)
    (Contains-map target_name (range_with_len 0 n) (target_number name) (member_of_range 0 n (target_number name) (omega arith) (omega arith))))
    (not_from_false (has (names f) name) (has-from_absent (names f) name is.free))

module _ (f : Circuit) (n : ℕ) (within : n ≤ 1000000000) where
  free_member : (name : List ℕ) → Contains (free_below f n) name → IsFreeTarget f name × (target_number name < n)
  free_member name c =
      let (target, free) = filter-Contains (is_free f) (map target_name (range_with_len 0 n)) name c in
      let (number, member, same) = map-Contains target_name (range_with_len 0 n) name target in
      let (low, high) = range_member 0 n number member in
      let is = ap target_number (sym same) ∙ number_of_target number (omega arith) in (
        record {
          text = subst (λ m. is_target_text m ≡ true) same (target_text number (omega arith));
          free = absent_from_has (names f) name (not-true (has (names f) name) free);
        },
        omega (arith, is, high),
      )

  -- they rise
  free_rising : AllPairs (λ a b. target_number a < target_number b) (free_below f n)
  free_rising =
      AllPairs-filter (λ a b. target_number a < target_number b) (is_free f) (map target_name (range_with_len 0 n)) (λ i j d less inside.
      let long = length-map-range_with_len target_name 0 n in
      let low = ap target_number (get_or-map-range_with_len target_name 0 n i i d (omega arith) (omega arith)) ∙ number_of_target i (omega arith) in
      let high = ap target_number (get_or-map-range_with_len target_name 0 n j j d (omega arith) (omega arith)) ∙ number_of_target j (omega arith) in
      omega (arith, low, high, less))

  pub free_apart : AllPairs (λ a b. a ≢ b) (free_below f n)
  free_apart i j d less inside same = omega (arith, free_rising i j d less inside, ap target_number same)

  pub free_ordered : IsStrictlyIncreasing (map target_number (free_below f n))
  free_ordered k inside =
      let long = length-map (free_below f n) target_number in
      let low = get_or-map target_number (free_below f n) k [] 0 (omega arith) in
      let high = get_or-map target_number (free_below f n) (k + 1) [] 0 (omega arith) in
      omega (arith, low, high, free_rising k (k + 1) [] (omega arith) (omega arith))

  pub free_all : All (IsFreeTarget f) (free_below f n)
  free_all k d inside = (free_member (get_or (free_below f n) k d) (Contains-get_or (free_below f n) k d inside)).0

  pub free_least : AreLeastFree f (free_below f n)
  free_least name is =
      elim (cases_lt (target_number name) n) [
        | inl below ↦ inl (free_there f n name is below)
        | inr above ↦ inr (λ k d inside. omega (arith, above, (free_member (get_or (free_below f n) k d) (Contains-get_or (free_below f n) k d inside)).1))
      ]

-- different free targets are no more than those below 10^9
pub free_few : (f : Circuit) (n count : ℕ) → 1000000000 ≤ n → length (free_below f n) < count → AreFewerFree f count
free_few f n count all fewer free apart are =
    let most = few_names free (free_below f n) apart (λ name c.
    let is = All-contains (IsFreeTarget f) free name are c in
    free_there f n name is (omega (arith, all, target_bound name is.text))) in
    omega (arith, most, fewer)
