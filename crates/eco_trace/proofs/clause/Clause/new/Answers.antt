use Rattle.std.proofs.Common.{List, refl, sym, subst, arith}
use Rattle.std.proofs.lemmas.Bool.{true≢false}
use Rattle.std.proofs.lemmas.Option.{MatchOption-at_none, MatchOption-at_some}
use Rattle.eco_trace.specs.declared.clause.Lit.{Lit}
use Rattle.eco_trace.specs.Clauses.{HasBothSigns, IsClauseOf}
use Rattle.eco_trace.specs.Merging.{IsNonFalling}
use Rattle.eco_trace.proofs.SortLaws.{non_falling_next, order_of, both_signs_permuted, clause_permuted, clause_not_both}
use Rattle.eco_trace.proofs.clause.Clause.new.Goals as goal

pub once_each-requires : goal.once_each-requires
once_each-requires c =
    subst IsNonFalling (sym c.as_slice.ensures.value)
    (non_falling_next c.sort.new.self.items (λ k d lt.
    order_of _ _ _ (c.in_ok-sort.ensures.sorted k d (omega arith) lt)))

pub returns-in-None-clause-none : goal.returns-in-None-clause-none
returns-in-None-clause-none c =
    let both : HasBothSigns c.sort.new.self.items =
    subst HasBothSigns c.as_slice.ensures.value (MatchOption-at_none _ _ c.in-None.is c.in_ok-once_each.ensures.none)
    in
    (λ _. both_signs_permuted _ _ c.sort.ensures.permutation both, λ _. refl)

pub returns-clause-none : goal.returns-clause-none
returns-clause-none c =
    let made : IsClauseOf c.sort.new.self.items c.in-Some.lits.items =
    subst (λ (ks : List Lit). IsClauseOf ks c.in-Some.lits.items) c.as_slice.ensures.value
    (MatchOption-at_some _ _ c.in-Some.lits c.in-Some.is c.in_ok-once_each.ensures.made)
    in (
      λ e. absurd (true≢false e),
      λ both. absurd (clause_not_both c.args.lits.items c.in-Some.lits.items (clause_permuted _ _ _ c.sort.ensures.permutation made) both),
    )

pub returns-clause-some : goal.returns-clause-some
returns-clause-some c =
    clause_permuted _ _ _ c.sort.ensures.permutation
    (subst (λ (ks : List Lit). IsClauseOf ks c.in-Some.lits.items) c.as_slice.ensures.value
    (MatchOption-at_some _ _ c.in-Some.lits c.in-Some.is c.in_ok-once_each.ensures.made))
