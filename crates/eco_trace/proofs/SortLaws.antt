-- Sorted literals, and the clause of a list whatever its order.
use Rattle.std.proofs.Common.{◌≡◌, ℕ, zero, suc, ◌+◌, ◌<◌, ◌≤◌, Bool, false, cond, eqb, List, length, get_or, inl, inr, subst, arith}
use Rattle.std.specs.declared.cmp.Ordering.{Ordering}
use Rattle.std.specs.declared.cmp.Ordering.TheVariants.{Less, Equal, Greater}
use Rattle.std.specs.Ordering.{is_lt, ordering_then, nat_cmp}
use Rattle.std.specs.List.Sorted.{IsPermutation}
use Rattle.std.proofs.lemmas.Bool.{cases_lt, lt-ltb, true≢false}
use Rattle.std.proofs.lemmas.List.Sorted.{IsPermutation-sym, Contains-permutation}
use Rattle.eco_trace.specs.declared.clause.Lit.{Lit}
use Rattle.eco_trace.specs.Clauses.{IsClauseOf, HasBothSigns, complement}
use Rattle.eco_trace.specs.Merging.{IsNonFalling}
use Rattle.eco_trace.proofs.ClauseLaws.{clause_one_sided}

-- where each literal is no smaller than the one before it, none is smaller than an earlier one
non_falling_upto : (xs : List Lit) → ((k : ℕ) (d : Lit) → suc k < length xs → (get_or xs k d).var.0 ≤ (get_or xs (suc k) d).var.0) → (i j : ℕ) (d : Lit) → i < j → j < length xs → (get_or xs i d).var.0 ≤ (get_or xs j d).var.0
non_falling_upto xs next i zero d lt in' = absurd (omega arith)
non_falling_upto xs next i (suc j) d lt in' =
    let last : (get_or xs j d).var.0 ≤ (get_or xs (suc j) d).var.0 = next j d in' in
    elim (cases_lt i j) [
      | inl before ↦ let up : (get_or xs i d).var.0 ≤ (get_or xs j d).var.0 = non_falling_upto xs next i j d before (omega arith) in omega arith
      | inr behind ↦ let same : j ≡ i = omega arith in subst (λ (k : ℕ). (get_or xs k d).var.0 ≤ (get_or xs (suc j) d).var.0) same last
    ]

-- where each literal is no smaller than the one before it, the variables don't fall
pub non_falling_next : (xs : List Lit) → ((k : ℕ) (d : Lit) → k + 1 < length xs → (get_or xs k d).var.0 ≤ (get_or xs (k + 1) d).var.0) → IsNonFalling xs
non_falling_next xs next =
    non_falling_upto xs (λ k d lt.
    let e : k + 1 ≡ suc k = omega arith in
    subst (λ (n : ℕ). (get_or xs k d).var.0 ≤ (get_or xs n d).var.0) e (next k d (omega arith)))

-- the lesser of two variables, by their order
pub order_of : (a b : ℕ) (o : Ordering) → is_lt (ordering_then (nat_cmp b a) o) ≡ false → a ≤ b
order_of a b o e =
    elim (cases_lt b a) [
      | inr le ↦ le
      | inl lt ↦
          let F : Bool → Type 0 = λ t. is_lt (ordering_then (cond t Less (cond (eqb b a) Equal Greater)) o) ≡ false in
          absurd (true≢false (subst F (lt-ltb b a lt) e))
    ]

-- what has both signs has them in any order
pub both_signs_permuted : (xs ys : List Lit) → IsPermutation xs ys → HasBothSigns ys → HasBothSigns xs
both_signs_permuted xs ys p (l, m, n) =
    let q = IsPermutation-sym xs ys p in
    (l, Contains-permutation ys xs l q m, Contains-permutation ys xs (complement l) q n)

-- the clause of a list is that of the list in another order
pub clause_permuted : (xs ys clause : List Lit) → IsPermutation xs ys → IsClauseOf ys clause → IsClauseOf xs clause
clause_permuted xs ys clause p h = record {
  clause_itself = h.clause_itself;
  members = λ l. (
    λ m. Contains-permutation ys xs l (IsPermutation-sym xs ys p) ((h.members l).0 m),
    λ m. (h.members l).1 (Contains-permutation xs ys l p m),
  );
}

-- a list with a clause has no variable with both signs
pub clause_not_both : (xs clause : List Lit) → IsClauseOf xs clause → HasBothSigns xs → ⊥
clause_not_both xs clause h (l, m, n) = clause_one_sided clause h.clause_itself l ((h.members l).1 m) ((h.members (complement l)).1 n)
