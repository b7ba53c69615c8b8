-- Numerals: their bound, and that different ones spell different numbers.
use Rattle.std.proofs.Common.{◌≡◌, ◌≢◌, ℕ, suc, ◌+◌, ◌-◌, ◌*◌, ◌^◌, ◌<◌, ◌≤◌, Bool, true, not, ◌&&◌, ◌||◌, List, [], ◌∷◌, ◌++◌, take, drop, length, refl, ap, ◌∙◌, sym, arith, inl, inr, nat_le, add-one, lit<, length-take, zero}
use Rattle.std.specs.Prelude.{fold, codes, ◌==◌}
use Rattle.std.specs.List.{list_all, slice_index_or}
use Rattle.std.specs.Str.{bytes_eq}
use Rattle.std.proofs.Math.Nat.{pow-le-pow_right, mul_comm}
use Rattle.std.proofs.lemmas.Bool.{cases_order}
use Rattle.std.proofs.lemmas.Bool.Decides.{nat_tests}
use Rattle.std.proofs.lemmas.Grind.{pow_more}
use Rattle.std.proofs.lemmas.List.{take-append-drop}
use Rattle.eco_lists.proofs.Names.{same_name}
use Rattle.eco_lists.proofs.Tests.{both}
use Rattle.eco_meaning.specs.Names.{is_digit, is_numeral, number_of, is_target_text, target_number}

-- the number that digits spell behind a number
abbrev number_after : ℕ → List ℕ → ℕ
number_after n digits = fold (λ number digit. 10 * number + (digit - 48)) n digits

digit_bounds : (c : ℕ) → is_digit c ≡ true → (48 ≤ c) × (c ≤ 57)
digit_bounds c e = let p = both (nat_le 48 c) (nat_le c 57) e in (grind (arith, nat_tests, p), grind (arith, nat_tests, p))

-- a step of ten
ten_more : (n d p : ℕ) → d ≤ 9 → (10 * n + d + 1) * p ≤ (n + 1) * (10 * p)
ten_more n d p below = grind arith

-- the next power of ten
pow_ten : (k : ℕ) → 10 ^ suc k ≡ 10 * 10 ^ k
pow_ten k = ap (λ m. 10 ^ m) (sym (add-one k)) ∙ pow_more 10 k ∙ mul_comm (10 ^ k) 10

less_through : (x a b : ℕ) → x < a → a ≤ b → x < b
less_through x a b p q = omega arith

number_after-lt : (n : ℕ) (digits : List ℕ) → list_all is_digit digits ≡ true → number_after n digits < (n + 1) * 10 ^ length digits
number_after-lt n [] e = grind arith
number_after-lt n (c ∷ cs) e =
    let parts = both (is_digit c) (list_all is_digit cs) e in
    let range = digit_bounds c parts.0 in
    rw (pow_ten (length cs))
    (less_through (number_after (10 * n + (c - 48)) cs) ((10 * n + (c - 48) + 1) * 10 ^ length cs) ((n + 1) * (10 * 10 ^ length cs))
    (number_after-lt (10 * n + (c - 48)) cs parts.1)
    (ten_more n (c - 48) (10 ^ length cs) (omega arith)))

more_through : (n d p x : ℕ) → (10 * n + d) * p ≤ x → n * (10 * p) ≤ x
more_through n d p x h = grind arith

number_after-ge : (n : ℕ) (digits : List ℕ) → n * 10 ^ length digits ≤ number_after n digits
number_after-ge n [] = grind arith
number_after-ge n (c ∷ cs) =
    rw (pow_ten (length cs))
    (more_through n (c - 48) (10 ^ length cs) (number_after (10 * n + (c - 48)) cs) (number_after-ge (10 * n + (c - 48)) cs))

-- the front of a list of digits is one
all_front : (p : ℕ → Bool) (i : ℕ) (xs : List ℕ) → list_all p xs ≡ true → list_all p (take i xs) ≡ true
all_front p zero xs e = refl
all_front p (suc i) [] e = refl
all_front p (suc i) (x ∷ xs) e =
    let parts = both (p x) (list_all p xs) e in
    rw (parts.0) (all_front p i xs parts.1)

-- the number of at most eight digits
pub short_number : (digits : List ℕ) (i : ℕ) → list_all is_digit digits ≡ true → i < length digits → length digits ≤ 9 → number_of (take i digits) < 100000000
short_number digits i e within few =
    let front : list_all is_digit (take i digits) ≡ true = all_front is_digit i digits e in
    let len : length (take i digits) ≤ 8 = simp length-take (omega arith) in
    less_through (number_of (take i digits)) ((0 + 1) * 10 ^ length (take i digits)) 100000000
    (number_after-lt 0 (take i digits) front)
    (let p : 10 ^ length (take i digits) ≤ 10 ^ 8 = pow-le-pow_right (lit< tt) len in omega (arith, p))

-- digits of one number, as many, are the same
same_digits : (n m : ℕ) (xs ys : List ℕ) → list_all is_digit xs ≡ true → list_all is_digit ys ≡ true → length xs ≡ length ys → number_after n xs ≡ number_after m ys → (n ≡ m) × (xs ≡ ys)
same_digits n m [] [] e f len same = (same, refl)
same_digits n m [] (y ∷ ys) e f len same = absurd (omega arith)
same_digits n m (x ∷ xs) [] e f len same = absurd (omega arith)
same_digits n m (x ∷ xs) (y ∷ ys) e f len same =
    let first = both (is_digit x) (list_all is_digit xs) e in
    let second = both (is_digit y) (list_all is_digit ys) f in
    let here = digit_bounds x first.0 in
    let there = digit_bounds y second.0 in
    let rest = same_digits (10 * n + (x - 48)) (10 * m + (y - 48)) xs ys first.1 second.1 (omega arith) same in
    let same_x : x ≡ y = omega (arith, rest.0) in
    (omega (arith, rest.0), cc (same_x, rest.1))

-- what a numeral is
record Numeral (xs : List ℕ) : Type 0 where
  pub digits : list_all is_digit xs ≡ true
  pub some : 1 ≤ length xs
  pub few : length xs ≤ 9
  pub first : (length xs == 1 || not (slice_index_or xs 0 48 == 48)) ≡ true

numeral_parts : (xs : List ℕ) → is_numeral xs ≡ true → Numeral xs
numeral_parts xs e =
    let outer = both (list_all is_digit xs && nat_le 1 (length xs) && nat_le (length xs) 9) (length xs == 1 || not (slice_index_or xs 0 48 == 48)) e in
    let middle = both (list_all is_digit xs && nat_le 1 (length xs)) (nat_le (length xs) 9) outer.0 in
    let inner = both (list_all is_digit xs) (nat_le 1 (length xs)) middle.0 in
    record {
      digits = inner.0;
      some = grind (arith, nat_tests, inner.1);
      few = grind (arith, nat_tests, middle.1);
      first = outer.1;
    }

not_zero : (n y : ℕ) → 1 < n → (n == 1 || not (y == 48)) ≡ true → y ≢ 48
not_zero n y more e is = grind (arith, nat_tests, e, is)

at_least : (d p x : ℕ) → 1 ≤ d → d * p ≤ x → p ≤ x
at_least d p x some h = grind arith

-- a numeral spells a larger number than fewer digits do
longer : (xs ys : List ℕ) → list_all is_digit xs ≡ true → Numeral ys → length xs < length ys → 1 < length ys → number_of xs < number_of ys
longer xs [] e numeral less more = absurd (omega arith)
longer xs (y ∷ ys) e numeral less more =
    let range = digit_bounds y (both (is_digit y) (list_all is_digit ys) numeral.digits).0 in
    let lead : y ≢ 48 = not_zero (length (y ∷ ys)) y more numeral.first in
    let low : 10 ^ length ys ≤ number_of (y ∷ ys) =
    at_least (0 + (y - 48)) (10 ^ length ys) (number_of (y ∷ ys)) (omega arith) (number_after-ge (0 + (y - 48)) ys) in
    let power : 10 ^ length xs ≤ 10 ^ length ys = pow-le-pow_right (lit< tt) (omega arith) in
    let high : number_of xs < (0 + 1) * 10 ^ length xs = number_after-lt 0 xs e in
    omega arith

-- different numerals spell different numbers
same_numeral : (xs ys : List ℕ) → is_numeral xs ≡ true → is_numeral ys ≡ true → number_of xs ≡ number_of ys → xs ≡ ys
same_numeral xs ys e f same =
    let first = numeral_parts xs e in
    let second = numeral_parts ys f in
    let some_first = first.some in
    let some_second = second.some in
    elim (cases_order (length xs) (length ys)) [
      | inl len ↦ (same_digits 0 0 xs ys first.digits second.digits len same).1
      | inr apart ↦ elim apart [
        | inl less ↦ let l : number_of xs < number_of ys = longer xs ys first.digits second less (omega arith) in absurd (omega arith)
        | inr more ↦ let l : number_of ys < number_of xs = longer ys xs second.digits first more (omega arith) in absurd (omega arith)
      ]
    ]

-- different targets have different numbers
pub same_target : (a b : List ℕ) → is_target_text a ≡ true → is_target_text b ≡ true → target_number a ≡ target_number b → a ≡ b
same_target a b e f same =
    let first = both (bytes_eq (take 2 a) (codes "t_")) (is_numeral (drop 2 a)) e in
    let second = both (bytes_eq (take 2 b) (codes "t_")) (is_numeral (drop 2 b)) f in
    let front : take 2 a ≡ take 2 b = same_name (take 2 a) (codes "t_") first.0 ∙ sym (same_name (take 2 b) (codes "t_") second.0) in
    let back : drop 2 a ≡ drop 2 b = same_numeral (drop 2 a) (drop 2 b) first.1 second.1 same in
    sym (take-append-drop 2 a) ∙ ap (λ xs. xs ++ drop 2 a) front ∙ ap (λ xs. take 2 b ++ xs) back ∙ take-append-drop 2 b
