-- Numbers in decimal digits: each text either is one or is none.
use Rattle.std.proofs.Common.{◌≡◌, ◌∙◌, ◌⊎◌, ℕ, zero, suc, ◌≤◌, ◌&&◌, Bool, true, false, nat_le, length, refl, sym, inl, inr, arith}
use Rattle.std.specs.List.{list_all}
use Rattle.std.proofs.lemmas.Bool.{false≢true}
use Rattle.std.proofs.lemmas.Bool.Decides.{nat_tests}
use Rattle.clap.specs.Words.{Text}
use Rattle.eco_meaning.specs.Names.{is_digit, number_of}
use Rattle.eco_words.specs.CommandLine.{IsNumeral}

-- whether a text is a numeral, as a test
abbrev is_numeral_text : ℕ → Text → Bool
is_numeral_text most text = list_all is_digit text && nat_le 1 (length text) && nat_le (length text) 20 && nat_le (number_of text) most

numeral_passes : (most : ℕ) (text : Text) (number : ℕ) → IsNumeral most text number → is_numeral_text most text ≡ true
numeral_passes most text number numeral =
    let spelled = numeral.spelled in
    let value = spelled.value in
    let small : number_of text ≤ most = omega (arith, value, spelled.limit) in
    grind (arith, nat_tests, spelled.decimal, spelled.some, numeral.few, small)

passing_numeral : (most : ℕ) (text : Text) → is_numeral_text most text ≡ true → IsNumeral most text (number_of text)
passing_numeral most text e = record {
  spelled = record {
    some = grind (arith, nat_tests, e);
    decimal = grind (arith, nat_tests, e);
    value = refl;
    limit = grind (arith, nat_tests, e);
  };
  few = grind (arith, nat_tests, e);
}

-- a number that fits, or none does
abbrev pub IsDecidable : (ℕ → Type 0) → Type 0
IsDecidable fits = ((number : ℕ) × fits number) ⊎ ((number : ℕ) → fits number → ⊥)

-- a text is a number that is at most so large, or is none
pub is_numeral_or_none : (most : ℕ) (text : Text) → IsDecidable (IsNumeral most text)
is_numeral_or_none most text = go (is_numeral_text most text) refl
  where
    go : (b : Bool) → is_numeral_text most text ≡ b → IsDecidable (IsNumeral most text)
    go true e = inl (number_of text, passing_numeral most text e)
    go false e = inr (λ number numeral. false≢true (sym e ∙ numeral_passes most text number numeral))

-- a text that is the number zero is no number from 1 on
zero_is_none : (most : ℕ) (text : Text) → IsNumeral most text 0 → (number : ℕ) → IsNumeral most text number × (1 ≤ number) → ⊥
zero_is_none most text nought number (numeral, some) =
    let same : number ≡ 0 = sym numeral.spelled.value ∙ nought.spelled.value in
    omega (arith, same, some)

-- a text is a number from 1 on that is at most so large, or is none
pub is_positive_or_none : (most : ℕ) (text : Text) → IsDecidable (λ number. IsNumeral most text number × (1 ≤ number))
is_positive_or_none most text = elim (is_numeral_or_none most text) [
  | inl right ↦ go right.0 right.1
  | inr none ↦ inr (λ number positive. none number positive.0)
]
  where
    go : (number : ℕ) → IsNumeral most text number → IsDecidable (λ number. IsNumeral most text number × (1 ≤ number))
    go zero numeral = inr (zero_is_none most text numeral)
    go (suc number) numeral = inl (suc number, (numeral, omega arith))
