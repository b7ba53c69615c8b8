-- Ranges of numbers.
use Rattle.std.proofs.Common.{◌≡◌, ℕ, zero, suc, ◌+◌, ◌<◌, ◌≤◌, inl, inr, [], ◌∷◌, ◌++◌, sym, ◌∙◌, ap, subst, arith}
use Rattle.std.specs.List.{range_with_len, Contains}
use Rattle.std.proofs.lemmas.Bool.{cases_eq}
use Rattle.std.proofs.lemmas.List.{map-id}
use Rattle.std.proofs.lemmas.List.FromFn.{map-range_with_len_more}
use Rattle.eco_lists.proofs.Members.{Contains_cases, Contains_first, Contains_later, Contains_none}

-- one more number at the end of a range
pub range_more : (a n j : ℕ) → a + n ≡ j → range_with_len a (n + 1) ≡ range_with_len a n ++ j ∷ []
range_more a n j e =
    sym (map-id (range_with_len a (n + 1))) ∙ map-range_with_len_more (λ (x : ℕ). x) a n j e
    ∙ ap (λ l. l ++ j ∷ []) (map-id (range_with_len a n))

-- the numbers of a range
pub range_member : (a n k : ℕ) → Contains (range_with_len a n) k → (a ≤ k) × (k < a + n)
range_member a zero k c = absurd (Contains_none k c)
range_member a (suc n) k c =
    elim (Contains_cases a k (range_with_len (a + 1) n) c) [
      | inl e ↦ (omega arith, omega arith)
      | inr later ↦ let rest = range_member (a + 1) n k later in (omega arith, omega arith)
    ]

pub member_of_range : (a n k : ℕ) → a ≤ k → k < a + n → Contains (range_with_len a n) k
member_of_range a zero k low high = absurd (omega arith)
member_of_range a (suc n) k low high =
    elim (cases_eq a k) [
      | inl e ↦ subst (λ z. Contains (a ∷ range_with_len (a + 1) n) z) e (Contains_first a (range_with_len (a + 1) n))
      | inr ne ↦ Contains_later a k (range_with_len (a + 1) n) (member_of_range (a + 1) n k (omega arith) (omega arith))
    ]
