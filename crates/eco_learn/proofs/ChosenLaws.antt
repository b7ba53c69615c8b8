-- The clause that marks choose on a trail, as it is gathered.
use Rattle.std.proofs.Common.{◌≡◌, ◌≢◌, ◌<◌, ◌≤◌, ◌&&◌, eqb, inl, inr, Bool, true, List, [], ◌∷◌, ◌++◌, refl, sym, ap, ◌∙◌, subst, arith}
use mathlib.Core.Bool.{beq}
use Rattle.std.specs.List.{AllPairs, Contains, dedup, dedup_from}
use Rattle.std.specs.List.Sorted.{IsPermutation}
use Rattle.std.specs.Cmp.{IsEquivalence}
use Rattle.std.proofs.lemmas.Bool.{false≢true, cases_Bool, eq-eqb}
use Rattle.std.proofs.lemmas.List.Elements.{Contains-push, Contains-push_cases, Contains-append_left}
use Rattle.std.proofs.lemmas.List.Kept.{Contains-dedup, Contains-from_dedup}
use Rattle.std.proofs.lemmas.List.Sorted.{Contains-permutation, IsPermutation-sym}
use Rattle.eco_lists.proofs.Members.{Contains_first, Contains_later, Contains_cases, Contains_none, AllPairs-head, AllPairs-tail}
use Rattle.eco_lists.proofs.Tests.{beq_own}
use Rattle.eco_lists.proofs.Places.{pairs_cons}
use Rattle.eco_trace.specs.declared.clause.Var.{Var}
use Rattle.eco_trace.specs.declared.clause.Lit.{Lit}
use Rattle.eco_trace.specs.Clauses.{IsClause, complement}
use Rattle.eco_trace.specs.Merging.{IsNonFalling}
use Rattle.eco_trace.proofs.ClauseLaws.{same_var, clause_none, clause_same, same_complement}
use Rattle.eco_learn.specs.Marks.{IsIn, HaveBeenFound, IsChosen, AreChosen}
use Rattle.eco_learn.proofs.AssertLaws.{lit_same}
use Rattle.eco_learn.proofs.ChoiceLaws.{same_in}

-- nothing is chosen of no variables
pub gathered_none : (lits : List Lit) (marks : List Bool) (clause : List Lit) → clause ≡ [] → AreChosen lits marks [] clause
gathered_none lits marks clause e = record {
  only = λ x m. absurd (Contains_none x (subst (λ (c : List Lit). Contains c x) e m));
  all = λ x in_lits marked has. absurd (Contains_none has.lit has.member);
}

-- of one variable more, of which nothing is chosen, or one literal
pub gathered_still : (lits : List Lit) (marks : List Bool) (done clause : List Lit) (l : Lit) → ((x : Lit) → x.var ≡ l.var → IsIn marks x.var.0 → Contains lits (complement x) → ⊥) → AreChosen lits marks done clause → AreChosen lits marks (done ++ l ∷ []) clause
gathered_still lits marks done clause l none h = record {
  only = h.only;
  all = λ x in_lits marked has.
      elim (Contains-push_cases done l has.lit has.member) [
        | inl old ↦ h.all x in_lits marked (record { lit = has.lit; member = old; variable = has.variable })
        | inr new ↦ absurd (none x (same_var x.var l.var (sym (ap (λ (k : Lit). k.var.0) new ∙ has.variable))) marked in_lits)
      ];
}

pub gathered_more : (lits : List Lit) (marks : List Bool) (done clause : List Lit) (l chosen : Lit) → AllPairs (λ a b. a.var ≢ b.var) lits → chosen.var ≡ l.var → IsIn marks chosen.var.0 → Contains lits (complement chosen) → AreChosen lits marks done clause → AreChosen lits marks (done ++ l ∷ []) (clause ++ chosen ∷ [])
gathered_more lits marks done clause l chosen apart var marked there h = record {
  only = λ x m.
      elim (Contains-push_cases clause chosen x m) [
        | inl old ↦ h.only x old
        | inr new ↦ (subst (λ (k : Lit). Contains lits (complement k)) new there, subst (λ (k : Lit). IsIn marks k.var.0) new marked)
      ];
  all = λ x in_lits in_marks has.
      elim (Contains-push_cases done l has.lit has.member) [
        | inl old ↦ Contains-append_left clause (chosen ∷ []) x (h.all x in_lits in_marks (record { lit = has.lit; member = old; variable = has.variable }))
        | inr new ↦
            let number : chosen.var.0 ≡ x.var.0 = ap (λ (v : Var). v.0) var ∙ ap (λ (k : Lit). k.var.0) new ∙ has.variable in
            let same : complement chosen ≡ complement x = same_in lits (complement chosen) (complement x) apart there in_lits number in
            subst (λ (k : Lit). Contains (clause ++ chosen ∷ []) k) (same_complement chosen x same) (Contains-push clause chosen)
      ];
}

-- the test whether two literals are one
abbrev pub is_lit : Lit → Lit → Bool
is_lit a b = eqb a.var.0 b.var.0 && beq a.positive b.positive

is_lit_own : (a : Lit) → is_lit a a ≡ true
is_lit_own a = ap (λ (t : Bool). t && beq a.positive a.positive) (eq-eqb a.var.0 a.var.0 refl) ∙ beq_own a.positive

is_lit_same : (a b : Lit) → is_lit a b ≡ true → a ≡ b
is_lit_same a b e = lit_same a b (sym e)

is_lit_equiv : IsEquivalence is_lit
is_lit_equiv = record {
  refl = is_lit_own;
  symm = λ x y. elim (cases_Bool (is_lit x y)) [
    | inl here ↦ here ∙ sym (ap (λ (k : Lit). is_lit y k) (is_lit_same x y here) ∙ is_lit_own y)
    | inr out ↦ elim (cases_Bool (is_lit y x)) [
      | inl back ↦ absurd (false≢true (sym out ∙ ap (λ (k : Lit). is_lit x k) (is_lit_same y x back) ∙ is_lit_own x))
      | inr there ↦ out ∙ sym there
    ]
  ];
  congr = λ x y z e. ap (λ (k : Lit). is_lit k z) (is_lit_same x y e);
}

-- no two literals of the list have one variable
abbrev HasOneEach : List Lit → Type 0
HasOneEach xs = (a b : Lit) → Contains xs a → Contains xs b → a.var.0 ≡ b.var.0 → a ≡ b

-- what is left of such literals, whose variables don't fall, where each stands once, is a clause
deduped_from : (k : Lit) (xs : List Lit) → IsNonFalling (k ∷ xs) → HasOneEach (k ∷ xs) → IsClause (dedup_from is_lit k xs)
deduped_from k [] up one = λ i j d lt within. absurd (omega arith)
deduped_from k (x ∷ xs) up one =
    let R : Lit → Lit → Type 0 = λ a b. a.var.0 ≤ b.var.0 in
    let tail : IsNonFalling (x ∷ xs) = AllPairs-tail R k (x ∷ xs) up in
    elim (cases_Bool (is_lit x k)) [
      | inl same ↦ rw same (
          deduped_from k xs
          (pairs_cons R k xs (AllPairs-tail R x xs tail) (λ y m. AllPairs-head R k (x ∷ xs) up y (Contains_later x y xs m)))
          (λ a b in_a in_b. one a b (skip a in_a) (skip b in_b)))
      | inr other ↦ rw other (
          pairs_cons (λ (a b : Lit). a.var.0 < b.var.0) k (dedup_from is_lit x xs) (deduped_from x xs tail (λ a b in_a in_b. one a b (Contains_later k a (x ∷ xs) in_a) (Contains_later k b (x ∷ xs) in_b)))
          (λ y m.
          let there : Contains (x ∷ xs) y = Contains-from_dedup is_lit (x ∷ xs) y m in
          let first : k.var.0 ≤ x.var.0 = AllPairs-head R k (x ∷ xs) up x (Contains_first x xs) in
          let second : x.var.0 ≤ y.var.0 = from_first y there in
          let differ : k.var.0 ≢ x.var.0 = λ e. false≢true (sym other ∙ ap (λ (l : Lit). is_lit l k) (sym (one k x (Contains_first k (x ∷ xs)) (Contains_later k x (x ∷ xs) (Contains_first x xs)) e)) ∙ is_lit_own k) in
          omega (arith, first, second, differ)))
    ]
  where
    skip : (a : Lit) → Contains (k ∷ xs) a → Contains (k ∷ x ∷ xs) a
    skip a m = elim (Contains_cases k a xs m) [
      | inl e ↦ subst (λ (l : Lit). Contains (k ∷ x ∷ xs) l) e (Contains_first k (x ∷ xs))
      | inr later ↦ Contains_later k a (x ∷ xs) (Contains_later x a xs later)
    ]

    from_first : (y : Lit) → Contains (x ∷ xs) y → x.var.0 ≤ y.var.0
    from_first y m = elim (Contains_cases x y xs m) [
      | inl e ↦ subst (λ (l : Lit). x.var.0 ≤ l.var.0) e (omega arith)
      | inr later ↦ AllPairs-head (λ (a b : Lit). a.var.0 ≤ b.var.0) x xs (AllPairs-tail (λ (a b : Lit). a.var.0 ≤ b.var.0) k (x ∷ xs) up) y later
    ]

deduped : (xs : List Lit) → IsNonFalling xs → HasOneEach xs → IsClause (dedup is_lit xs)
deduped [] up one = clause_none
deduped (x ∷ xs) up one = deduped_from x xs up one

-- what was gathered of all that was found, sorted and each once, is the chosen clause
pub chosen_from : (lits : List Lit) (marks : List Bool) (found gathered sorted clause : List Lit) → AllPairs (λ a b. a.var ≢ b.var) lits → HaveBeenFound marks found → AreChosen lits marks found gathered → IsPermutation gathered sorted → IsNonFalling sorted → clause ≡ dedup is_lit sorted → IsChosen lits marks clause
chosen_from lits marks found gathered sorted clause apart all h moved up e = rw e (record {
  clause_itself = deduped sorted up (λ a b in_a in_b number.
      same_complement a b (same_in lits (complement a) (complement b) apart (h.only a (back a in_a)).0 (h.only b (back b in_b)).0 number));
  members = λ x. (
    λ m. h.only x (back x (Contains-from_dedup is_lit sorted x m)),
    λ m. Contains-dedup is_lit_equiv is_lit_same sorted x (Contains-permutation gathered sorted x moved (h.all x m.0 m.1 (all x.var.0 m.1))),
  );
})
  where
    back : (x : Lit) → Contains sorted x → Contains gathered x
    back x m = Contains-permutation sorted gathered x (IsPermutation-sym gathered sorted moved) m

-- the chosen clause as it is read
pub chosen_read : (lits : List Lit) (marks : List Bool) (written read : List Lit) → read ≡ written → IsChosen lits marks written → IsChosen lits marks read
chosen_read lits marks written read e h = rw e h

-- the marks choose one clause
pub chosen_one : (lits : List Lit) (marks : List Bool) (c d : List Lit) → IsChosen lits marks c → IsChosen lits marks d → c ≡ d
chosen_one lits marks c d h g =
    clause_same c d h.clause_itself g.clause_itself (λ x m. (g.members x).1 ((h.members x).0 m)) (λ x m. (h.members x).1 ((g.members x).0 m))
