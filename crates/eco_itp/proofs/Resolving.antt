-- What a resolvent keeps of its two clauses.
use Rattle.std.proofs.Common.{◌≡◌, ◌≢◌, List, inl, inr, sym, ◌∙◌, subst, Any}
use Rattle.eco_trace.specs.declared.clause.Var.{Var}
use Rattle.eco_trace.specs.declared.clause.Lit.{Lit}
use Rattle.eco_trace.specs.Clauses.{IsClause, complement}
use Rattle.eco_trace.specs.Resolution.{IsResolvent}
use Rattle.eco_itp.proofs.Lists.{Any_from, Any_member, cases_var, one_literal}

-- a literal of another variable than the pivot stays
pub kept_left : (Q : Lit → Type 0) (left right clause : List Lit) (pivot : Var) → IsResolvent left right pivot clause → (a : Any Q left) → (a.1).var ≢ pivot → Any Q clause
kept_left Q left right clause pivot r a other =
    Any_from Q clause a.1 ((r.members a.1).1 (inl (Any_member Q left a), other)) a.4

-- the same of the second clause
pub kept_right : (Q : Lit → Type 0) (left right clause : List Lit) (pivot : Var) → IsResolvent left right pivot clause → (a : Any Q right) → (a.1).var ≢ pivot → Any Q clause
kept_right Q left right clause pivot r a other =
    Any_from Q clause a.1 ((r.members a.1).1 (inr (Any_member Q right a), other)) a.4

-- what holds of a literal of each of two clauses, and never of a literal and its complement, holds of one of their
-- resolvent
pub kept_of_both : (Q : Lit → Type 0) (left right clause : List Lit) (pivot : Var) → IsClause left → IsClause right → IsResolvent left right pivot clause → ((l : Lit) → Q l → Q (complement l) → ⊥) → Any Q left → Any Q right → Any Q clause
kept_of_both Q left right clause pivot cl cr r apart a b =
    elim (cases_var (a.1).var pivot) [
      | inr other ↦ kept_left Q left right clause pivot r a other
      | inl at_left ↦ elim (cases_var (b.1).var pivot) [
        | inr other ↦ kept_right Q left right clause pivot r b other
        | inl at_right ↦
            let l = r.opposed.lit in
            let one : a.1 ≡ l = one_literal left a.1 l cl (Any_member Q left a) r.opposed.in_left (at_left ∙ sym r.opposed.variable) in
            let two : b.1 ≡ complement l = one_literal right b.1 (complement l) cr (Any_member Q right b) r.opposed.in_right (at_right ∙ sym r.opposed.variable) in
            absurd (apart l (subst (λ (m : Lit). Q m) one a.4) (subst (λ (m : Lit). Q m) two b.4))
      ]
    ]
