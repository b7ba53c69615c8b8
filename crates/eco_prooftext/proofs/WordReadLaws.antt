-- The literals that words spell.
use Rattle.std.proofs.Common.{◌≡◌, Bool, true, false, cond, ℕ, ◌≤◌, List, [], ◌∷◌, ◌++◌, Option, Some, None, get_or, IfSome, IfNone, refl, sym, ap, ◌∙◌, subst, arith, codes, decimal}
use Rattle.std.proofs.lemmas.Fmt.{first_decimal}
use Rattle.eco_trace.specs.declared.clause.Lit.{Lit}
use Rattle.eco_prooftext.specs.CnfFile.{IsLiteral}
use Rattle.eco_prooftext.specs.Reading.{IsVariable}
use Rattle.eco_text.specs.Numbers.{IsNumberUpTo}
use Rattle.eco_text.proofs.NumberLaws.{number_once}

-- a number's text doesn't begin with a sign
pub no_sign : (m : ℕ) (d : List ℕ) → 1 ≤ m → m ≤ 9223372036854775807 → decimal m ≡ codes "-" ++ d → ⊥
no_sign m d le lt e =
    let first = first_decimal m (omega arith) (omega arith) in
    let same : get_or (decimal m) 0 0 ≡ 45 = ap (λ (l : List ℕ). get_or l 0 0) e in
    omega (arith, first, same)

-- a literal by its sign and its variable
literal_from : (vars : ℕ) (word digits : List ℕ) (lit : Lit) (p : Bool) → word ≡ cond p [] (codes "-") ++ digits → (lit.positive ≡ p) → IsVariable vars digits lit.var.0 → IsLiteral vars word lit
literal_from vars word digits lit p e sign is = record {
  text = e ∙ ap (λ (d : List ℕ). cond p [] (codes "-") ++ d) is.text ∙ ap (λ (b : Bool). cond b [] (codes "-") ++ decimal lit.var.0) (sym sign);
  within = record { first = is.first; last = is.last };
  limit = is.limit;
}

pub negated_some : (vars : ℕ) (word digits : List ℕ) (r : Option Lit) → word ≡ codes "-" ++ digits → IfSome r (λ lit. (lit.positive ≡ false) × IsVariable vars digits lit.var.0) → IfSome r (IsLiteral vars word)
negated_some vars word digits None e h = tt
negated_some vars word digits (Some lit) e h = literal_from vars word digits lit false e h.0 h.1

pub plain_some : (vars : ℕ) (word : List ℕ) (r : Option Lit) → IfSome r (λ lit. (lit.positive ≡ true) × IsVariable vars word lit.var.0) → IfSome r (IsLiteral vars word)
plain_some vars word None h = tt
plain_some vars word (Some lit) h = literal_from vars word word lit true refl h.0 h.1

abbrev pub rest_of : List ℕ → List ℕ
rest_of [] = []
rest_of (x ∷ xs) = xs

variable_from : (vars : ℕ) (lit : Lit) (word digits : List ℕ) → digits ≡ decimal lit.var.0 → IsLiteral vars word lit → IsVariable vars digits lit.var.0
variable_from vars lit word digits e is = record { text = e; first = is.within.first; last = is.within.last; limit = is.limit }

-- the number behind a sign: its word is the sign's rest, or begins with a digit
sign_rest : (word digits : List ℕ) (p : Bool) (n : ℕ) → word ≡ cond p [] (codes "-") ++ decimal n → word ≡ codes "-" ++ digits → ((d : List ℕ) → decimal n ≡ codes "-" ++ d → ⊥) → digits ≡ decimal n
sign_rest word digits true n e f none = absurd (none digits (sym e ∙ f))
sign_rest word digits false n e f none = ap rest_of (sym f ∙ e)

pub negated_none : (vars : ℕ) (word digits : List ℕ) (r : Option Lit) → word ≡ codes "-" ++ digits → IfNone r ((n : ℕ) → IsVariable vars digits n → ⊥) → IfNone r ((lit : Lit) → IsLiteral vars word lit → ⊥)
negated_none vars word digits (Some lit) e h = tt
negated_none vars word digits None e h = λ lit is.
    h lit.var.0 (variable_from vars lit word digits (sign_rest word digits lit.positive lit.var.0 is.text e (λ d. no_sign lit.var.0 d is.within.first is.limit)) is)

plain_text : (word : List ℕ) (p : Bool) (n : ℕ) → word ≡ cond p [] (codes "-") ++ decimal n → ((d : List ℕ) → word ≡ codes "-" ++ d → ⊥) → word ≡ decimal n
plain_text word true n e none = e
plain_text word false n e none = absurd (none (decimal n) e)

pub plain_none : (vars : ℕ) (word : List ℕ) (r : Option Lit) → ((d : List ℕ) → word ≡ codes "-" ++ d → ⊥) → IfNone r ((n : ℕ) → IsVariable vars word n → ⊥) → IfNone r ((lit : Lit) → IsLiteral vars word lit → ⊥)
plain_none vars word (Some lit) none h = tt
plain_none vars word None none h = λ lit is.
    h lit.var.0 (variable_from vars lit word word (plain_text word lit.positive lit.var.0 is.text none) is)

-- a number that isn't from 1 to `vars` is no variable's
pub not_between : (vars number : ℕ) (digits : List ℕ) → IsNumberUpTo 9223372036854775807 digits number → ((1 ≤ number) × (number ≤ vars) → ⊥) → (n : ℕ) → IsVariable vars digits n → ⊥
not_between vars number digits is none n v =
    let same : n ≡ number = number_once 9223372036854775807 digits n number (omega arith) (record { text = v.text; within = v.limit }) is in
    none (subst (λ (k : ℕ). (1 ≤ k) × (k ≤ vars)) same (v.first, v.last))
