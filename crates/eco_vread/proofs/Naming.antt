-- What an identifier names is a name.
use Rattle.std.proofs.Common.{◌≡◌, ℕ, Bool, true, false, ◌&&◌, List, [], ◌∷◌, length, refl, arith, sym, ◌∙◌}
use Rattle.std.specs.Prelude.{◌==◌}
use Rattle.std.specs.List.{list_all}
use Rattle.std.proofs.lemmas.Bool.{false≢true}
use Rattle.std.proofs.lemmas.Bool.Decides.{nat_tests}
use Rattle.std.proofs.Math.Bool.{and-false}
use Rattle.eco_tokens.proofs.Names.{first_visible, later_visible}
use Rattle.eco_lists.proofs.Tests.{both}
use Rattle.eco_tokens.specs.declared.TokenKind.TheVariants.{Simple, Escaped}
use Rattle.eco_tokens.specs.Bytes.{is_first, is_later}
use Rattle.eco_tokens.specs.Forms.{is_simple, is_plain, is_visible, is_escaped, has_form}
use Rattle.eco_meaning.specs.Names.{is_name, is_printing}
use Rattle.eco_vread.specs.Syntax.{named}

-- a test that is weaker passes all that the stronger one does
weaker_all : {X : Type 0} (p q : X → Bool) → ((x : X) → p x ≡ true → q x ≡ true) → (xs : List X) → list_all p xs ≡ true → list_all q xs ≡ true
weaker_all p q f [] h = refl
weaker_all p q f (x ∷ xs) h =
    let w = both (p x) (list_all p xs) h in
    rw (f x w.0) (weaker_all p q f xs w.1)

full_name : (b : ℕ) (more : List ℕ) → (is_printing b && list_all is_printing more) ≡ true → is_name (b ∷ more) ≡ true
full_name b more h =
    let e : (length (b ∷ more) == 0) ≡ false = grind (arith, nat_tests) in
    rw e h

pub simple_named : (text : List ℕ) → has_form Simple text ≡ true → is_name (named false text) ≡ true
unfolding has_form is_plain is_simple
simple_named [] h = absurd (cc)
simple_named (b ∷ more) h =
    let w = both (is_first b && list_all is_later more) _ h in
    let v = both (is_first b) _ w.0 in
    full_name b more (rw (first_visible b v.0) (weaker_all is_later is_printing later_visible more v.1))

pub escaped_named : (text : List ℕ) → has_form Escaped text ≡ true → is_name (named true text) ≡ true
unfolding has_form is_escaped is_visible
escaped_named [] h = absurd (cc)
escaped_named (b ∷ []) h = absurd (false≢true (sym (and-false (b == 92)) ∙ h))
escaped_named (b ∷ c ∷ more) h = full_name c more (both (b == 92) _ h).1

pub ruleset namings = (simple_named, escaped_named)
