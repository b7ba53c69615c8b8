-- Tests, joined and compared.
use Rattle.std.proofs.Common.{◌≡◌, ◌≢◌, ◌⊎◌, inl, inr, Bool, true, false, not, ◌&&◌, cond, refl, sym, ◌∙◌, ap}
use mathlib.Core.Bool.{beq}
use Rattle.std.proofs.lemmas.Bool.{false≢true, true≢false}
pub use Rattle.std.proofs.lemmas.Bool.{and_parts as both, or_parts as neither}

-- two bits are one or differ, and none is its own opposite
pub cases_bits : (a b : Bool) → (a ≡ b) ⊎ (a ≢ b)
cases_bits true true = inl refl
cases_bits true false = inr true≢false
cases_bits false true = inr false≢true
cases_bits false false = inl refl

pub not_own : (b : Bool) → b ≡ not b → ⊥
not_own true e = true≢false e
not_own false e = false≢true e

-- two bits that differ are opposites
pub opposite : (a b : Bool) → a ≢ b → a ≡ not b
opposite true true differ = absurd (differ refl)
opposite true false differ = refl
opposite false true differ = refl
opposite false false differ = absurd (differ refl)

-- what the test of a bit against a sign says
pub same_sign : (a b : Bool) → cond a b (not b) ≡ true → a ≡ b
same_sign true true e = refl
same_sign false false e = refl
same_sign true false e = absurd (false≢true e)
same_sign false true e = absurd (false≢true e)

-- and such a test of a bit against its own sign is 1
pub sign_true : (a b : Bool) → b ≡ a → cond a b (not b) ≡ true
sign_true true b e = e
sign_true false b e = ap not e

-- what one of two tests excludes is excluded by the other
pub excluded : (a b : Bool) → (a ≡ true → b ≡ false) → b ≡ true → a ≡ false
excluded true b apart one = absurd (false≢true (sym (apart refl) ∙ one))
excluded false b apart one = refl

-- a test that is false beside one that is true
pub second_false : (a b : Bool) → (a && b) ≡ false → a ≡ true → b ≡ false
second_false true b e one = e
second_false false b e one = absurd (false≢true one)

pub opposite_false : (a b : Bool) → a ≡ not b → a ≡ false → b ≡ true
opposite_false a true is e = refl
opposite_false a false is e = absurd (true≢false (sym is ∙ e))

-- equal bits by the test
pub beq_same : (a b : Bool) → beq a b ≡ true → a ≡ b
beq_same true true e = refl
beq_same true false e = absurd (false≢true e)
beq_same false true e = absurd (false≢true e)
beq_same false false e = refl

pub beq_own : (a : Bool) → beq a a ≡ true
beq_own true = refl
beq_own false = refl
