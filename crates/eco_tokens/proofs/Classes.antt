-- Which bytes a token or a gap begins with: no two of these tests hold of one byte.
use Rattle.std.proofs.Common.{◌≡◌, ℕ, Bool, true, false, ◌||◌, refl, sym, subst}
use Rattle.std.specs.Prelude.{◌==◌}
use Rattle.std.proofs.lemmas.Bool.{eqb-true}
use Rattle.eco_meaning.specs.Names.{is_printing}
use Rattle.eco_lists.proofs.Tests.{both, excluded}
use Rattle.eco_tokens.specs.Bytes.{is_blank, is_first, is_later, is_separator, is_mark, is_pair}

-- one of two tests holds
by_either : {P : Type 0} (b c : Bool) → (b ≡ true → P) → (c ≡ true → P) → (b || c) ≡ true → P
by_either true c f g h = f h
by_either false c f g h = g h

-- what holds of the code holds of a byte that is equal to it
at_code : (P : ℕ → Type 0) (b k : ℕ) → P k → (b == k) ≡ true → P b
at_code P b k p h = subst P (sym (eqb-true b k h)) p

-- what holds of each white space
pub at_blank : (P : ℕ → Type 0) → P 32 → P 9 → P 10 → P 12 → P 13 → (b : ℕ) → is_blank b ≡ true → P b
at_blank P p32 p9 p10 p12 p13 b =
    by_either _ _ (by_either _ _ (by_either _ _ (by_either _ _ (at_code P b 32 p32) (at_code P b 9 p9)) (at_code P b 10 p10)) (at_code P b 12 p12)) (at_code P b 13 p13)

-- what holds of each separator
at_separator : (P : ℕ → Type 0) → P 40 → P 41 → P 44 → P 59 → (b : ℕ) → is_separator b ≡ true → P b
at_separator P p40 p41 p44 p59 b =
    by_either _ _ (by_either _ _ (by_either _ _ (at_code P b 40 p40) (at_code P b 41 p41)) (at_code P b 44 p44)) (at_code P b 59 p59)

-- what holds of each byte that a mark begins with
at_mark : (P : ℕ → Type 0) → P 40 → P 41 → P 44 → P 59 → P 126 → P 38 → P 94 → P 124 → P 61 → (b : ℕ) → is_mark b ≡ true → P b
at_mark P p40 p41 p44 p59 p126 p38 p94 p124 p61 b =
    by_either _ _ (by_either _ _ (by_either _ _ (by_either _ _ (by_either _ _ (at_separator P p40 p41 p44 p59 b) (at_code P b 126 p126)) (at_code P b 38 p38)) (at_code P b 94 p94)) (at_code P b 124 p124)) (at_code P b 61 p61)

-- a separator begins a mark, and no pair; a pair begins with what a mark begins with
pub separator_mark : (b : ℕ) → is_separator b ≡ true → is_mark b ≡ true
separator_mark = at_separator (λ b. is_mark b ≡ true) refl refl refl refl

pub separator_no_pair : (c b : ℕ) → is_separator b ≡ true → is_pair b c ≡ false
separator_no_pair c = at_separator (λ b. is_pair b c ≡ false) refl refl refl refl

pub pair_mark : (b c : ℕ) → is_pair b c ≡ true → is_mark b ≡ true
pair_mark b c =
    by_either _ _ (by_either _ _ (by_either _ _
    (λ h. at_code (λ b. is_mark b ≡ true) b 126 refl (both (b == 126) (c == 94 || c == 38 || c == 124) h).0)
    (λ h. at_code (λ b. is_mark b ≡ true) b 94 refl (both (b == 94) (c == 126) h).0))
    (λ h. at_code (λ b. is_mark b ≡ true) b 38 refl (both (b == 38) (c == 38) h).0))
    (λ h. at_code (λ b. is_mark b ≡ true) b 124 refl (both (b == 124) (c == 124) h).0)

blank_no_first : (b : ℕ) → is_blank b ≡ true → is_first b ≡ false
blank_no_first = at_blank (λ b. is_first b ≡ false) refl refl refl refl refl

pub blank_no_later : (b : ℕ) → is_blank b ≡ true → is_later b ≡ false
blank_no_later = at_blank (λ b. is_later b ≡ false) refl refl refl refl refl

pub blank_no_printing : (b : ℕ) → is_blank b ≡ true → is_printing b ≡ false
blank_no_printing = at_blank (λ b. is_printing b ≡ false) refl refl refl refl refl

pub mark_no_first : (b : ℕ) → is_mark b ≡ true → is_first b ≡ false
mark_no_first = at_mark (λ b. is_first b ≡ false) refl refl refl refl refl refl refl refl refl

pub mark_no_later : (b : ℕ) → is_mark b ≡ true → is_later b ≡ false
mark_no_later = at_mark (λ b. is_later b ≡ false) refl refl refl refl refl refl refl refl refl

pub mark_no_blank : (b : ℕ) → is_mark b ≡ true → is_blank b ≡ false
mark_no_blank = at_mark (λ b. is_blank b ≡ false) refl refl refl refl refl refl refl refl refl

-- what begins a name is no white space, and no mark
pub first_no_blank : (b : ℕ) → is_first b ≡ true → is_blank b ≡ false
first_no_blank b = excluded (is_blank b) (is_first b) (blank_no_first b)

pub first_no_mark : (b : ℕ) → is_first b ≡ true → is_mark b ≡ false
first_no_mark b = excluded (is_mark b) (is_first b) (mark_no_first b)
