-- The clauses of a part, clause by clause.
use Rattle.std.proofs.Common.{◌≡◌, ◌↔◌, ℕ, ◌+◌, ◌<◌, ◌≤◌, inl, inr, Bool, List, [], ◌∷◌, ◌++◌, Some, length, sym, ◌∙◌, ap, subst, arith}
use Rattle.std.specs.List.{slice_get}
use Rattle.std.proofs.lemmas.Bool.{cases_eq}
use Rattle.std.proofs.lemmas.Option.{same_Some, slice_get_within}
use Rattle.std.proofs.lemmas.List.Elements.{All-nil}
use Rattle.eco_trace.specs.declared.clause.Lit.{Lit}
use Rattle.eco_trace.specs.Clauses.{Valuation, HoldsIn, Satisfies}
use Rattle.eco_trace.specs.Split.{Split, IsModelOf}
use Rattle.eco_accept.proofs.Adding.{pushed}

-- the clauses of the part before this place hold
abbrev pub HoldBefore : Split → Bool → ℕ → Valuation → Type 0
HoldBefore s part n v = (k : ℕ) (clause : List Lit) → k < n → slice_get s.clauses k ≡ Some clause → slice_get s.marks k ≡ Some part → HoldsIn v clause

-- the clauses so far are those
abbrev pub AreBefore : List (List Lit) → Split → Bool → ℕ → Type 0
AreBefore clauses s part n = (v : Valuation) → Satisfies v clauses ↔ HoldBefore s part n v

pub none_before : (clauses : List (List Lit)) (s : Split) (part : Bool) → clauses ≡ [] → AreBefore clauses s part 0
none_before clauses s part none = λ v. (λ h k clause lt. absurd (omega (arith, lt)), λ h. subst (Satisfies v) (sym none) (All-nil (HoldsIn v)))

-- one more clause of the part
pub before_more : (old new : List (List Lit)) (s : Split) (part : Bool) (n : ℕ) (clause : List Lit) → slice_get s.clauses n ≡ Some clause → slice_get s.marks n ≡ Some part → new ≡ old ++ clause ∷ [] → AreBefore old s part n → AreBefore new s part (n + 1)
before_more old new s part n clause at_clause at_mark added are = λ v.
    let both = pushed old new clause v added in (
      λ h k other lt at mark. elim (cases_eq k n) [
        | inl here ↦ subst (HoldsIn v) (same_Some clause other (sym at_clause ∙ ap (slice_get s.clauses) (sym here) ∙ at)) ((both.0 h).1)
        | inr ne ↦ (are v).0 ((both.0 h).0) k other (omega (arith, lt, ne)) at mark
      ],
      λ h. both.1 ((are v).1 (λ k other lt at mark. h k other (omega (arith, lt)) at mark), h n clause (omega arith) at_clause at_mark),
    )

-- one more clause of the other part
pub before_same : (clauses : List (List Lit)) (s : Split) (part mark : Bool) (n : ℕ) → slice_get s.marks n ≡ Some mark → (mark ≡ part → ⊥) → AreBefore clauses s part n → AreBefore clauses s part (n + 1)
before_same clauses s part mark n at_mark differs are = λ v. (
  λ h k other lt at is. elim (cases_eq k n) [
    | inl here ↦ absurd (differs (same_Some mark part (sym at_mark ∙ ap (slice_get s.marks) (sym here) ∙ is)))
    | inr ne ↦ (are v).0 h k other (omega (arith, lt, ne)) at is
  ],
  λ h. (are v).1 (λ k other lt at is. h k other (omega (arith, lt)) at is),
)

-- all clauses
pub before_all : (clauses : List (List Lit)) (s : Split) (part : Bool) (n : ℕ) → length s.marks ≤ n → AreBefore clauses s part n → (v : Valuation) → Satisfies v clauses ↔ IsModelOf s part v
before_all clauses s part n le are v = (
  λ h clause b. (are v).0 h b.0 clause (let lt = slice_get_within s.marks b.0 part b.2 in omega (arith, lt, le)) b.1 b.2,
  λ h. (are v).1 (λ k clause lt at mark. h clause (k, at, mark)),
)
