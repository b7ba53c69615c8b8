-- Values of the variables so far go on to those that tell where two lists differ.
use Rattle.std.proofs.Common.{◌≡◌, ◌+◌, ◌≤◌, ◌||◌, List, [], ◌∷◌, length, refl, sym, ◌∙◌, ap, arith}
use Rattle.std.specs.List.{All}
use Rattle.std.proofs.lemmas.List.Elements.{All-head, All-tail}
use Rattle.eco_trace.specs.declared.clause.Lit.{Lit}
use Rattle.eco_trace.specs.Clauses.{Valuation, Clauses, IsVarWithin, truth, read}
use Rattle.eco_clauses.specs.Gates.{with_xor}
use Rattle.eco_clauses.proofs.Extending.{AgreeUpTo, IsModelled, agree_join, all_within_more, read_agree, xor_extended}
use Rattle.eco_equality.specs.Equality.{with_differences}
use Rattle.eco_clauses.specs.Numbering.{new_literals}
use Rattle.eco_lists.specs.Bits.{exactly_one}
use Rattle.eco_clauses.proofs.Bits.{holds}
use Rattle.eco_equality.proofs.Telling.{any_differ}

pub record AreDifferences (c : Clauses) (ones others : List Lit) (u : Valuation) : Type 0 where
  pub values : Valuation
  pub agree : AgreeUpTo c.vars u values
  pub modelled : IsModelled (with_differences c ones others) values
  pub told : holds values (new_literals c.vars ones) ≡ any_differ (read u ones) (read u others)

pub differences_extended : (c : Clauses) (ones others : List Lit) (u : Valuation) → length ones ≡ length others → All (IsVarWithin c.vars) ones → All (IsVarWithin c.vars) others → IsModelled c u → AreDifferences c ones others u
differences_extended c [] others u sizes first second is = record { values = u; agree = λ k le. refl; modelled = is; told = refl }
differences_extended c (one ∷ ones) [] u sizes first second is = absurd (omega (arith, sizes))
differences_extended c (one ∷ ones) (other ∷ others) u sizes first second is =
    let le : c.vars ≤ c.vars + 1 = omega arith in
    let first_rest = All-tail (IsVarWithin c.vars) one ones first in
    let second_rest = All-tail (IsVarWithin c.vars) other others second in
    let step = xor_extended c one other u (All-head (IsVarWithin c.vars) one ones first) (All-head (IsVarWithin c.vars) other others second) is in
    let rest = differences_extended (with_xor c one other) ones others step.values (omega (arith, sizes)) (all_within_more c.vars (c.vars + 1) ones le first_rest) (all_within_more c.vars (c.vars + 1) others le second_rest) step.modelled in
    record {
      values = rest.values;
      agree = agree_join c.vars (c.vars + 1) u step.values rest.values le step.agree rest.agree;
      modelled = rest.modelled;
      told = ap (λ b. b || holds rest.values (new_literals (c.vars + 1) ones)) (sym (rest.agree (c.vars + 1) (omega arith)) ∙ step.value)
          ∙ ap (λ b. exactly_one (truth u one) (truth u other) || b) (rest.told
          ∙ ap (λ bs. any_differ bs (read step.values others)) (sym (read_agree c.vars u step.values ones step.agree first_rest))
          ∙ ap (any_differ (read u ones)) (sym (read_agree c.vars u step.values others step.agree second_rest)));
    }
