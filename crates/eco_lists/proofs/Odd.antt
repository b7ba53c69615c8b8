-- Odd numbers, bits of which just one is 1, and lists of bits in which an odd number is 1.
use Rattle.std.proofs.Common.{◌≡◌, ℕ, ◌+◌, Bool, true, false, not, cond, eqb, List, [], ◌∷◌, ◌++◌, refl, sym, ◌∙◌, ap, arith, zero-add, add-zero}
use Rattle.std.specs.Prelude.{◌%◌}
use Rattle.std.specs.List.{count_by}
use Rattle.std.proofs.lemmas.Bool.{true≢false}
use Rattle.std.proofs.lemmas.Bool.Decides.{nat_tests}
use Rattle.std.proofs.lemmas.List.Sums.{sum_by-cons, sum_by_push}
use Rattle.eco_meaning.specs.Gates.{is_odd}
use Rattle.eco_lists.specs.Bits.{exactly_one}

-- one more 1 turns an even number into an odd one, and the other way round
pub odd_suc : (n : ℕ) → eqb ((n + 1) % 2) 1 ≡ not (eqb (n % 2) 1)
odd_suc n = grind (arith, nat_tests)

pub suc_odd : (n : ℕ) → eqb ((1 + n) % 2) 1 ≡ not (eqb (n % 2) 1)
suc_odd n = grind (arith, nat_tests)

-- bits of which not exactly one is 1 are the same
pub same_bits : (a b : Bool) → exactly_one a b ≡ false → a ≡ b
same_bits true true e = refl
same_bits true false e = absurd (true≢false e)
same_bits false b e = sym e

-- beside a 0, exactly one is 1 where the bit is
pub one_none : (a : Bool) → exactly_one a false ≡ a
one_none true = refl
one_none false = refl

-- exactly one of three is 1, or all of them are, whichever two are taken first
pub one_assoc : (a b c : Bool) → exactly_one a (exactly_one b c) ≡ exactly_one (exactly_one a b) c
one_assoc true true true = refl
one_assoc true true false = refl
one_assoc true false c = refl
one_assoc false b c = refl

-- one more bit in front of a list, and one behind it
pub odd_cons : (b : Bool) (bits : List Bool) → is_odd (b ∷ bits) ≡ exactly_one b (is_odd bits)
odd_cons b bits = ap (λ n. eqb (n % 2) 1) (sum_by-cons (λ (x : Bool). cond x 1 0) b bits) ∙ by b
  where
    by : (b : Bool) → eqb ((cond b 1 0 + count_by (λ bit. bit) bits) % 2) 1 ≡ exactly_one b (is_odd bits)
    by true = suc_odd (count_by (λ bit. bit) bits)
    by false = ap (λ n. eqb (n % 2) 1) (zero-add (count_by (λ bit. bit) bits))

pub odd_push : (bits : List Bool) (b : Bool) → is_odd (bits ++ b ∷ []) ≡ exactly_one (is_odd bits) b
odd_push bits b = ap (λ n. eqb (n % 2) 1) (sum_by_push (λ (x : Bool). cond x 1 0) bits b) ∙ by b (is_odd bits) refl
  where
    count : ℕ
    count = count_by (λ bit. bit) bits

    by : (c o : Bool) → is_odd bits ≡ o → eqb ((count + cond c 1 0) % 2) 1 ≡ exactly_one o c
    by true true e = odd_suc count ∙ ap not e
    by true false e = odd_suc count ∙ ap not e
    by false true e = ap (λ n. eqb (n % 2) 1) (add-zero count) ∙ e
    by false false e = ap (λ n. eqb (n % 2) 1) (add-zero count) ∙ e
