-- What a model of the clauses says of the variables that tell where two lists differ.
use Rattle.std.proofs.Common.{◌≡◌, ◌+◌, Bool, false, ◌||◌, List, [], ◌∷◌, length, refl, ◌∙◌, ap, arith}
use Rattle.eco_trace.specs.declared.clause.Lit.{Lit}
use Rattle.eco_trace.specs.Clauses.{Valuation, Clauses, Satisfies, truth, read}
use Rattle.eco_clauses.specs.Listing.{with_variables, next_literal}
use Rattle.eco_clauses.specs.Gates.{with_xor}
use Rattle.eco_clauses.proofs.Telling.{xor_tells}
use Rattle.eco_equality.specs.Equality.{with_differences}
use Rattle.eco_clauses.specs.Numbering.{new_literals}
use Rattle.eco_lists.specs.Bits.{exactly_one}
use Rattle.eco_clauses.proofs.Bits.{holds}

-- whether two lists of bits exactly_one somewhere
abbrev pub any_differ : List Bool → List Bool → Bool
any_differ [] others = false
any_differ (one ∷ ones) [] = false
any_differ (one ∷ ones) (other ∷ others) = exactly_one one other || any_differ ones others

-- some new variable is 1 where the lists exactly_one
pub differences_tell : (v : Valuation) (c : Clauses) (ones others : List Lit) → length ones ≡ length others → Satisfies v (with_differences c ones others).clauses → Satisfies v c.clauses × (holds v (new_literals c.vars ones) ≡ any_differ (read v ones) (read v others))
differences_tell v c [] others sizes h = (h, refl)
differences_tell v c (one ∷ ones) [] sizes h = absurd (omega (arith, sizes))
differences_tell v c (one ∷ ones) (other ∷ others) sizes h =
    let rest = differences_tell v (with_xor c one other) ones others (omega (arith, sizes)) h in
    let first = xor_tells v (with_variables 1 c) (next_literal c) one other rest.0 in (
      first.0,
      ap (λ b. b || holds v (new_literals (c.vars + 1) ones)) first.1 ∙ ap (λ b. exactly_one (truth v one) (truth v other) || b) rest.1,
    )
