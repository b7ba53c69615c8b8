-- The stack of what waits for an operand.
use Rattle.std.proofs.Common.{◌≡◌, ℕ, ◌<◌, ◌≤◌, true, false, List, [], ◌∷◌, ◌++◌, drop, refl, ap, ◌∙◌, arith, Some, None}
use Rattle.std.proofs.lemmas.Bool.Decides.{nat_tests}
use Rattle.std.specs.Prelude.{nat_le}
use Rattle.eco_vread.specs.declared.tree.Operator.{Operator}
use Rattle.eco_vread.specs.declared.expression.Waiting.{Waiting}
use Rattle.eco_vread.specs.declared.expression.Waiting.TheVariants.{Tilde, Bracket, Left}
use Rattle.eco_vread.specs.Postfix.{Sign}
use Rattle.eco_vread.specs.Postfix.Sign.{inversion, operation}
use Rattle.eco_vread.specs.Grammar.{tightness}
use Rattle.eco_vread.specs.Expressions.{reduced, joined, given}
use Rattle.eco_vread.specs.Kept.{is_tilde_last, last_operator}

pub reduced_more : (stack new : List Waiting) (signs next : List Sign) → is_tilde_last stack ≡ true → new ≡ drop 1 stack → next ≡ signs ++ inversion ∷ [] → reduced new next ≡ reduced stack signs
unfolding reduced
reduced_more [] new signs next h e f = absurd (cc)
reduced_more (Tilde ∷ stack) new signs next h e f = rw (e, f) refl
reduced_more (Bracket ∷ stack) new signs next h e f = absurd (cc)
reduced_more (Left op ∷ stack) new signs next h e f = absurd (cc)

pub reduced_end : (stack : List Waiting) (signs : List Sign) → is_tilde_last stack ≡ false → given stack signs ≡ reduced stack signs
unfolding reduced
reduced_end [] signs h = refl
reduced_end (Tilde ∷ stack) signs h = absurd (cc)
reduced_end (Bracket ∷ stack) signs h = refl
reduced_end (Left op ∷ stack) signs h = refl

pub joined_more : (least : ℕ) (stack new : List Waiting) (signs next : List Sign) (op : Operator) → last_operator stack ≡ Some op → least ≤ tightness op → new ≡ drop 1 stack → next ≡ signs ++ operation op ∷ [] → joined least new next ≡ joined least stack signs
unfolding joined
joined_more least [] new signs next op h t e f = absurd (cc)
joined_more least (Tilde ∷ stack) new signs next op h t e f = absurd (cc)
joined_more least (Bracket ∷ stack) new signs next op h t e f = absurd (cc)
joined_more least (Left o ∷ stack) new signs next op h t e f =
    let same : o ≡ op = cc in
    let tight : nat_le least (tightness o) ≡ true = ap (λ q. nat_le least (tightness q)) same ∙ grind (arith, nat_tests) in
    rw (e, f, ← same, tight) refl

pub joined_none : (least : ℕ) (stack : List Waiting) (signs : List Sign) → last_operator stack ≡ None → given stack signs ≡ joined least stack signs
unfolding joined
joined_none least [] signs h = refl
joined_none least (Tilde ∷ stack) signs h = refl
joined_none least (Bracket ∷ stack) signs h = refl
joined_none least (Left op ∷ stack) signs h = absurd (cc)

pub joined_looser : (least : ℕ) (stack : List Waiting) (signs : List Sign) (op : Operator) → last_operator stack ≡ Some op → tightness op < least → given stack signs ≡ joined least stack signs
unfolding joined
joined_looser least [] signs op h t = refl
joined_looser least (Tilde ∷ stack) signs op h t = refl
joined_looser least (Bracket ∷ stack) signs op h t = refl
joined_looser least (Left o ∷ stack) signs op h t =
    let same : o ≡ op = cc in
    let loose : nat_le least (tightness o) ≡ false = ap (λ q. nat_le least (tightness q)) same ∙ grind (arith, nat_tests) in
    rw loose refl
