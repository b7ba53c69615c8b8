-- The bits of words.
use Rattle.std.proofs.Common.{◌≡◌, ℕ, zero, suc, ◌+◌, ◌-◌, ◌<◌, ◌%◌, ◌^◌, Bool, true, false, not, ◌&&◌, ◌||◌, eqb, List, [], ◌∷◌, length, take, set, map, get_or, min, max, bit_and, bit_or, bit_xor, refl, sym, ◌∙◌, ap, arith, w64}
use Rattle.std.specs.Int.{bit_at}
use Rattle.std.specs.List.{list_all, list_any}
use Rattle.std.proofs.lemmas.List.{map-set, map_more}
use Rattle.std.proofs.lemmas.List.Folds.{list_all-append, list_any-append}
use Rattle.std.proofs.lemmas.Nat.Bits.{bit_at_and, bit_at_or, bit_at_xor, bit_at_not, bit_at-lt, bit_at_ones}
use Rattle.eco_lists.specs.Bits.{exactly_one}
use Rattle.eco_lists.proofs.Odd.{odd_push}
use Rattle.eco_meaning.specs.Gates.{is_odd}
use Rattle.eco_gates.specs.declared.gate.Term.{Term}
use Rattle.eco_gates.specs.Words.{is_set, lane}

-- what and, or, xor and not are of numbers below 2
and_two : (x y : ℕ) → x < 2 → y < 2 → eqb (min x y) 1 ≡ (eqb x 1 && eqb y 1)
and_two zero zero _ _ = refl
and_two zero (suc zero) _ _ = refl
and_two (suc zero) zero _ _ = refl
and_two (suc zero) (suc zero) _ _ = refl
and_two (suc (suc x)) y a b = absurd (omega arith)
and_two zero (suc (suc y)) a b = absurd (omega arith)
and_two (suc zero) (suc (suc y)) a b = absurd (omega arith)

or_two : (x y : ℕ) → x < 2 → y < 2 → eqb (max x y) 1 ≡ (eqb x 1 || eqb y 1)
or_two zero zero _ _ = refl
or_two zero (suc zero) _ _ = refl
or_two (suc zero) zero _ _ = refl
or_two (suc zero) (suc zero) _ _ = refl
or_two (suc (suc x)) y a b = absurd (omega arith)
or_two zero (suc (suc y)) a b = absurd (omega arith)
or_two (suc zero) (suc (suc y)) a b = absurd (omega arith)

xor_two : (x y : ℕ) → x < 2 → y < 2 → eqb ((x + y) % 2) 1 ≡ exactly_one (eqb x 1) (eqb y 1)
xor_two zero zero _ _ = refl
xor_two zero (suc zero) _ _ = refl
xor_two (suc zero) zero _ _ = refl
xor_two (suc zero) (suc zero) _ _ = refl
xor_two (suc (suc x)) y a b = absurd (omega arith)
xor_two zero (suc (suc y)) a b = absurd (omega arith)
xor_two (suc zero) (suc (suc y)) a b = absurd (omega arith)

not_two : (x : ℕ) → x < 2 → eqb (1 - x) 1 ≡ not (eqb x 1)
not_two zero _ = refl
not_two (suc zero) _ = refl
not_two (suc (suc x)) a = absurd (omega arith)

set-and : (a b place : ℕ) → is_set (bit_and a b) place ≡ (is_set a place && is_set b place)
set-and a b place = ap (λ x. eqb x 1) (bit_at_and a b place) ∙ and_two (bit_at a place) (bit_at b place) (bit_at-lt a place) (bit_at-lt b place)

set-or : (a b place : ℕ) → is_set (bit_or a b) place ≡ (is_set a place || is_set b place)
set-or a b place = ap (λ x. eqb x 1) (bit_at_or a b place) ∙ or_two (bit_at a place) (bit_at b place) (bit_at-lt a place) (bit_at-lt b place)

set-xor : (a b place : ℕ) → is_set (bit_xor a b) place ≡ exactly_one (is_set a place) (is_set b place)
set-xor a b place = ap (λ x. eqb x 1) (bit_at_xor a b place) ∙ xor_two (bit_at a place) (bit_at b place) (bit_at-lt a place) (bit_at-lt b place)

pub set_not : (a place : ℕ) → a < 2 ^ 64 → place < 64 → is_set (18446744073709551615 - a) place ≡ not (is_set a place)
set_not a place fits lt = ap (λ x. eqb x 1) (bit_at_not w64 a place fits lt) ∙ not_two (bit_at a place) (bit_at-lt a place)

pub set-all : (place : ℕ) → place < 64 → is_set (2 ^ 64 - 1) place ≡ true
set-all place lt = ap (λ x. eqb x 1) (bit_at_ones 64 place lt)

-- a word that is written
pub lane-set : (words : List ℕ) (net word place : ℕ) → lane (set words net word) place ≡ set (lane words place) net (is_set word place)
lane-set words net word place = map-set (λ w. is_set w place) words net word

-- a list of one bit
all-one : (b : Bool) → list_all (λ bit. bit) (b ∷ []) ≡ b
all-one true = refl
all-one false = refl

some-one : (b : Bool) → list_any (λ bit. bit) (b ∷ []) ≡ b
some-one true = refl
some-one false = refl

-- one more term
pub all-more : (f : Term → Bool) (terms : List Term) (k : ℕ) (d : Term) (word bit place : ℕ) → k < length terms → is_set word place ≡ list_all (λ bit. bit) (map f (take k terms)) → is_set bit place ≡ f (get_or terms k d) → is_set (bit_and word bit) place ≡ list_all (λ bit. bit) (map f (take (k + 1) terms))
all-more f terms k d word bit place within before here =
    let front = map f (take k terms) in
    let t = f (get_or terms k d) in
    set-and word bit place ∙ ap (λ b. b && is_set bit place) before ∙ ap (λ b. list_all (λ bit. bit) front && b) (here ∙ sym (all-one t))
    ∙ sym (list_all-append (λ bit. bit) front (t ∷ [])) ∙ sym (ap (list_all (λ bit. bit)) (map_more f terms k d within))

pub some-more : (f : Term → Bool) (terms : List Term) (k : ℕ) (d : Term) (word bit place : ℕ) → k < length terms → is_set word place ≡ list_any (λ bit. bit) (map f (take k terms)) → is_set bit place ≡ f (get_or terms k d) → is_set (bit_or word bit) place ≡ list_any (λ bit. bit) (map f (take (k + 1) terms))
some-more f terms k d word bit place within before here =
    let front = map f (take k terms) in
    let t = f (get_or terms k d) in
    set-or word bit place ∙ ap (λ b. b || is_set bit place) before ∙ ap (λ b. list_any (λ bit. bit) front || b) (here ∙ sym (some-one t))
    ∙ sym (list_any-append (λ bit. bit) front (t ∷ [])) ∙ sym (ap (list_any (λ bit. bit)) (map_more f terms k d within))

pub odd-more : (f : Term → Bool) (terms : List Term) (k : ℕ) (d : Term) (word bit place : ℕ) → k < length terms → is_set word place ≡ is_odd (map f (take k terms)) → is_set bit place ≡ f (get_or terms k d) → is_set (bit_xor word bit) place ≡ is_odd (map f (take (k + 1) terms))
odd-more f terms k d word bit place within before here =
    let front = map f (take k terms) in
    let t = f (get_or terms k d) in
    set-xor word bit place ∙ ap (λ b. exactly_one b (is_set bit place)) before ∙ ap (exactly_one (is_odd front)) here
    ∙ sym (odd_push front t) ∙ sym (ap is_odd (map_more f terms k d within))
