-- Exclusive disjunctions of bits, and how many are 1.
use Rattle.std.proofs.Common.{◌≡◌, Bool, true, false, not, cond, List, [], ◌∷◌, ◌++◌, refl, sym, ◌∙◌, ap}
use mathlib.Core.Bool.{beq}
use Rattle.eco_meaning.specs.Gates.{is_odd}
use Rattle.eco_lists.specs.Bits.{exactly_one}
use Rattle.eco_lists.proofs.Odd.{one_none, one_assoc, odd_cons}

pub one_comm : (a b : Bool) → exactly_one a b ≡ exactly_one b a
one_comm true true = refl
one_comm true false = refl
one_comm false true = refl
one_comm false false = refl

-- a bit that is counted twice
pub one_twice : (a b : Bool) → exactly_one (exactly_one a b) a ≡ b
one_twice true true = refl
one_twice true false = refl
one_twice false true = refl
one_twice false false = refl

pub one_again : (a b : Bool) → b ≡ exactly_one a (exactly_one b a)
one_again a b = sym (ap (exactly_one a) (one_comm b a) ∙ one_comm a (exactly_one a b) ∙ one_twice a b)

-- the bit of an edge is that of its node, turned by its sign
pub sign_bit : (c n : Bool) → cond c (not n) n ≡ exactly_one c n
sign_bit true n = refl
sign_bit false n = refl

-- the signs of two edges to one node, and their bits
pub two_signs : (c d n : Bool) → cond d (not n) n ≡ exactly_one (exactly_one c d) (cond c (not n) n)
two_signs true true n = refl
two_signs true false true = refl
two_signs true false false = refl
two_signs false true n = refl
two_signs false false n = refl

-- an odd number of ones in two lists
pub odd_one : (b : Bool) → is_odd (b ∷ []) ≡ b
odd_one b = odd_cons b [] ∙ one_none b

pub odd_append : (bits more : List Bool) → is_odd (bits ++ more) ≡ exactly_one (is_odd bits) (is_odd more)
odd_append [] more = refl
odd_append (b ∷ bits) more =
    odd_cons b (bits ++ more) ∙ ap (exactly_one b) (odd_append bits more) ∙ one_assoc b (is_odd bits) (is_odd more)
    ∙ ap (λ x. exactly_one x (is_odd more)) (sym (odd_cons b bits))

-- how the code compares signs
pub differ_one : (a b : Bool) → not (beq a b) ≡ exactly_one a b
differ_one true true = refl
differ_one true false = refl
differ_one false true = refl
differ_one false false = refl
