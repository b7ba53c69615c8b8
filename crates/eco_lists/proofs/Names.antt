-- Names, which are lists of bytes: when two are one, and their order.
use Rattle.std.proofs.Common.{◌≡◌, ℕ, true, List, refl, ◌≢◌, sym, ◌∙◌, ap}
use Rattle.std.specs.Cmp.{IsEquivalence, nat_eq_equiv}
use Rattle.std.specs.Cmp.Lexicographic.{lists_equiv, slice_cmp}
use Rattle.std.specs.Ordering.{is_lt, nat_cmp, ordering_reverse, is_eq}
use Rattle.std.specs.Str.{bytes_eq}
use Rattle.std.specs.declared.cmp.Ordering.{Ordering}
use Rattle.std.specs.declared.cmp.Ordering.TheVariants.{Less, Equal, Greater}
use Rattle.std.proofs.lemmas.Bool.{false≢true}
use Rattle.std.proofs.lemmas.Slice.Eq.{bytes_eq-Decides}
use Rattle.std.proofs.lemmas.Cmp.{nat_list_cmp_total}
use Rattle.std.proofs.lemmas.Map.Text.{is_eq-slice_cmp}

-- equal by the test is equal
pub same_name : (a b : List ℕ) → bytes_eq a b ≡ true → a ≡ b
same_name a b e = (bytes_eq-Decides a b).0 e

pub bytes_eq-same : (a : List ℕ) → bytes_eq a a ≡ true
bytes_eq-same a = (bytes_eq-Decides a a).1 refl

-- the test is an equality, the same both ways
pub bytes_eq_equiv : IsEquivalence bytes_eq
bytes_eq_equiv = lists_equiv nat_eq_equiv

pub bytes_eq-flip : (a b : List ℕ) → bytes_eq a b ≡ bytes_eq b a
bytes_eq-flip a b = bytes_eq_equiv.symm a b

-- the order of names, as a test
pub less_from : (o : Ordering) → is_lt o ≡ true → o ≡ Less
less_from Less e = refl
less_from Equal e = absurd (false≢true e)
less_from Greater e = absurd (false≢true e)

-- names that are ordered neither way are equal
pub equal_from : (a b : List ℕ) (order : Ordering) → slice_cmp nat_cmp a b ≡ order → slice_cmp nat_cmp a b ≢ Less → slice_cmp nat_cmp b a ≢ Less → a ≡ b
equal_from a b Less e up down = absurd (up e)
equal_from a b Equal e up down = same_name a b (sym (is_eq-slice_cmp a b) ∙ ap is_eq e)
equal_from a b Greater e up down = absurd (down (nat_list_cmp_total.antisymm b a ∙ ap ordering_reverse e))
