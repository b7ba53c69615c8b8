-- Names, as tokens spell them.
use Rattle.std.proofs.Common.{◌≡◌, ℕ, Bool, true, false, List, refl, arith}
use Rattle.std.proofs.lemmas.Bool.Decides.{nat_tests}
use Rattle.eco_meaning.specs.Names.{is_printing}
use Rattle.eco_tokens.specs.declared.TokenKind.TheVariants.{Simple}
use Rattle.eco_tokens.specs.Bytes.{is_first, is_later}
use Rattle.eco_tokens.specs.Forms.{is_plain, is_visible, has_form}
use Rattle.eco_tokens.specs.Said.{written_by, written}
use Rattle.eco_tokens.proofs.Shapes.{escaped_from_visible}

plain_form : (name : List ℕ) → is_plain name ≡ true → has_form Simple name ≡ true
unfolding has_form
plain_form name h = h

form_by : (name : List ℕ) (t : Bool) → is_plain name ≡ t → is_visible name ≡ true → has_form (written_by t name).kind (written_by t name).text ≡ true
form_by name true e visible = plain_form name e
form_by name false e visible = escaped_from_visible name visible

-- A name of visible characters is written as a token.
pub written_form : (name : List ℕ) → is_visible name ≡ true → has_form (written name).kind (written name).text ≡ true
written_form name visible = form_by name (is_plain name) refl visible

-- What a plain name is made of can be printed.
pub first_visible : (b : ℕ) → is_first b ≡ true → is_printing b ≡ true
first_visible b h = grind (arith, nat_tests)

pub later_visible : (b : ℕ) → is_later b ≡ true → is_printing b ≡ true
later_visible b h = grind (arith, nat_tests)
