-- The clause of listed literals, and when it holds.
use Rattle.std.proofs.Common.{◌≡◌, ◌↔◌, inl, inr, ℕ, ◌<◌, Bool, true, false, not, cond, eqb, ltb, List, [], ◌∷◌, ◌++◌, Option, Some, None, MatchOption, option_map, option_and_then, option_to_list, IfSome, get_or, refl, sym, ◌∙◌, ap, subst, arith, append-nil}
use Rattle.std.specs.List.{Contains}
use Rattle.std.proofs.lemmas.Bool.{ltb-true, ltb-false, eqb-true, eqb-false}
use Rattle.std.proofs.lemmas.List.Kept.{AllPairs-cons}
use Rattle.std.proofs.lemmas.List.Elements.{All-nil, All-cons, All-head, Contains-get_or}
use Rattle.eco_lists.proofs.Members.{Contains_first, Contains_later, Contains_cases, Contains_none, AllPairs-head}
use Rattle.eco_lists.proofs.Tests.{same_sign}
use Rattle.eco_trace.specs.declared.clause.Lit.{Lit}
use Rattle.eco_trace.specs.Clauses.{Valuation, Clauses, with_clause, HoldsIn, Satisfies, IsClause, IsClauseOf, HasBothSigns, complement}
use Rattle.eco_trace.proofs.ClauseLaws.{clause_none, clause_rest, clause_same, clause_from, lit_cases}
use Rattle.eco_trace.proofs.SortLaws.{clause_not_both}
use Rattle.eco_trace.proofs.ProofLaws.{holds_by}
use Rattle.eco_clauses.specs.Listing.{with_literal, clause_of, with_list}

-- a literal is its variable's number and its sign
same_literal : (l m : Lit) → l.var.0 ≡ m.var.0 → l.positive ≡ m.positive → l ≡ m
same_literal l m number sign =
    let of : ℕ → Bool → Lit = λ n b. record { var = record { 0 = n }; positive = b } in
    ap (λ n. of n l.positive) number ∙ ap (of m.var.0) sign

-- what it says where two signs differ
other_sign : (a b : Bool) → cond a b (not b) ≡ false → not a ≡ b
other_sign true false e = refl
other_sign false true e = refl
other_sign true true e = cc
other_sign false false e = cc

-- a clause with a lesser literal before it
clause_cons : (l : Lit) (clause : List Lit) → IsClause clause → ((m : Lit) → Contains clause m → l.var.0 < m.var.0) → IsClause (l ∷ clause)
clause_cons l clause is below =
    AllPairs-cons (λ (a b : Lit). a.var.0 < b.var.0) l clause (λ k d lt. below (get_or clause k d) (Contains-get_or clause k d lt)) is

-- one literal more in a clause
abbrev IsWith : Lit → List Lit → Option (List Lit) → Type 0
IsWith l clause made = MatchOption made (Contains clause (complement l)) (IsClauseOf (l ∷ clause))

-- a literal below the first one
before_first : (l m : Lit) (clause : List Lit) → IsClause (m ∷ clause) → l.var.0 < m.var.0 → IsWith l (m ∷ clause) (Some (l ∷ m ∷ clause))
before_first l m clause is less = record {
  clause_itself = clause_cons l (m ∷ clause) is (λ x c. let le = clause_from m clause is m.var.0 (omega arith) x c in omega (arith, le, less));
  members = λ x. (λ c. c, λ c. c);
}

-- the first one again
same_first : (l m : Lit) (clause : List Lit) → IsClause (m ∷ clause) → l ≡ m → IsWith l (m ∷ clause) (Some (m ∷ clause))
same_first l m clause is same = record {
  clause_itself = is;
  members = λ x. (
    λ c. Contains_later l x (m ∷ clause) c,
    λ c. elim (Contains_cases l x (m ∷ clause) c) [ inl e ↦ subst (Contains (m ∷ clause)) (sym same ∙ e) (Contains_first m clause) | inr later ↦ later ],
  );
}

-- a literal behind the first one
behind_first : (l m : Lit) (clause : List Lit) (made : Option (List Lit)) → IsClause (m ∷ clause) → m.var.0 < l.var.0 → IsWith l clause made → IsWith l (m ∷ clause) (option_map (λ rest. m ∷ rest) made)
behind_first l m clause None is less with = Contains_later m (complement l) clause with
behind_first l m clause (Some rest) is less with = record {
  clause_itself = clause_cons m rest with.clause_itself (λ x c. elim (Contains_cases l x clause ((with.members x).0 c)) [
    | inl e ↦ subst (λ (k : Lit). m.var.0 < k.var.0) e less
    | inr later ↦ AllPairs-head (λ (a b : Lit). a.var.0 < b.var.0) m clause is x later
  ]);
  members = λ x. (
    λ c. elim (Contains_cases m x rest c) [
      | inl e ↦ Contains_later l x (m ∷ clause) (subst (Contains (m ∷ clause)) e (Contains_first m clause))
      | inr more ↦ elim (Contains_cases l x clause ((with.members x).0 more)) [
        | inl e ↦ subst (Contains (l ∷ m ∷ clause)) e (Contains_first l (m ∷ clause))
        | inr later ↦ Contains_later l x (m ∷ clause) (Contains_later m x clause later)
      ]
    ],
    λ c. elim (Contains_cases l x (m ∷ clause) c) [
      | inl e ↦ Contains_later m x rest ((with.members x).1 (subst (Contains (l ∷ clause)) e (Contains_first l clause)))
      | inr more ↦ elim (Contains_cases m x clause more) [
        | inl e ↦ subst (Contains (m ∷ rest)) e (Contains_first m rest)
        | inr later ↦ Contains_later m x rest ((with.members x).1 (Contains_later l x clause later))
      ]
    ],
  );
}

with_literal_is : (l : Lit) (clause : List Lit) → IsClause clause → IsWith l clause (with_literal l clause)
with_literal_is l [] is = record {
  clause_itself = clause_cons l [] is (λ m c. absurd (Contains_none m c));
  members = λ x. (λ c. c, λ c. c);
}
with_literal_is l (m ∷ clause) is =
    by (with_literal_is l clause (clause_rest m clause is)) (ltb l.var.0 m.var.0) (eqb l.var.0 m.var.0) (cond l.positive m.positive (not m.positive)) refl refl refl
  where
    by : IsWith l clause (with_literal l clause) → (less equal sign : Bool) → ltb l.var.0 m.var.0 ≡ less → eqb l.var.0 m.var.0 ≡ equal → cond l.positive m.positive (not m.positive) ≡ sign → IsWith l (m ∷ clause) (cond less (Some (l ∷ m ∷ clause)) (cond equal (cond sign (Some (m ∷ clause)) None) (option_map (λ rest. m ∷ rest) (with_literal l clause))))
    by rest true equal sign e f g = before_first l m clause is (ltb-true l.var.0 m.var.0 e)
    by rest false true true e f g = same_first l m clause is (same_literal l m (eqb-true l.var.0 m.var.0 f) (same_sign l.positive m.positive g))
    by rest false true false e f g = subst (Contains (m ∷ clause)) (sym (same_literal (complement l) m (eqb-true l.var.0 m.var.0 f) (other_sign l.positive m.positive g))) (Contains_first m clause)
    by rest false false sign e f g =
        let le = ltb-false l.var.0 m.var.0 e in
        let ne = eqb-false l.var.0 m.var.0 f in
        behind_first l m clause (with_literal l clause) is (omega (arith, le, ne)) rest

-- the clause of a list is that of its literals, or a variable has both signs in it
abbrev IsListed : List Lit → Option (List Lit) → Type 0
IsListed lits made = MatchOption made (HasBothSigns lits) (IsClauseOf lits)

listed_more : (l : Lit) (lits : List Lit) (made : Option (List Lit)) → IsListed lits made → IsListed (l ∷ lits) (option_and_then (with_literal l) made)
listed_more l lits None both = (both.0, Contains_later l both.0 lits both.1, Contains_later l (complement both.0) lits both.2)
listed_more l lits (Some clause) of = by (with_literal l clause) (with_literal_is l clause of.clause_itself)
  where
    by : (made : Option (List Lit)) → IsWith l clause made → IsListed (l ∷ lits) made
    by None other = (l, Contains_first l lits, Contains_later l (complement l) lits ((of.members (complement l)).0 other))
    by (Some more) with = record {
      clause_itself = with.clause_itself;
      members = λ x. (
        λ c. elim (Contains_cases l x clause ((with.members x).0 c)) [
          | inl e ↦ subst (Contains (l ∷ lits)) e (Contains_first l lits)
          | inr later ↦ Contains_later l x lits ((of.members x).0 later)
        ],
        λ c. elim (Contains_cases l x lits c) [
          | inl e ↦ (with.members x).1 (subst (Contains (l ∷ clause)) e (Contains_first l clause))
          | inr later ↦ (with.members x).1 (Contains_later l x clause ((of.members x).1 later))
        ],
      );
    }

clause_of_is : (lits : List Lit) → IsListed lits (clause_of lits)
unfolding clause_of
clause_of_is [] = record { clause_itself = clause_none; members = λ x. (λ c. c, λ c. c) }
clause_of_is (l ∷ lits) = listed_more l lits (clause_of lits) (clause_of_is lits)

-- so it is any clause of these literals
pub clause_found : (lits clause : List Lit) → IsClauseOf lits clause → clause_of lits ≡ Some clause
clause_found lits clause of = by (clause_of lits) (clause_of_is lits)
  where
    by : (made : Option (List Lit)) → IsListed lits made → made ≡ Some clause
    by None both = absurd (clause_not_both lits clause of both)
    by (Some other) is =
        ap (λ c. Some c) (clause_same other clause is.clause_itself of.clause_itself (λ l c. (of.members l).1 ((is.members l).0 c)) (λ l c. (is.members l).1 ((of.members l).0 c)))

-- and there is none where a variable has both signs
pub clause_missing : (lits : List Lit) → HasBothSigns lits → clause_of lits ≡ None
clause_missing lits both = by (clause_of lits) (clause_of_is lits)
  where
    by : (made : Option (List Lit)) → IsListed lits made → made ≡ None
    by None _ = refl
    by (Some other) is = absurd (clause_not_both lits other is both)

-- the clause holds where some literal of the list is true
pub list_holds : (v : Valuation) (lits : List Lit) → Satisfies v (option_to_list (clause_of lits)) ↔ HoldsIn v lits
list_holds v lits = by (clause_of lits) (clause_of_is lits)
  where
    by : (made : Option (List Lit)) → IsListed lits made → Satisfies v (option_to_list made) ↔ HoldsIn v lits
    by None both = (
      λ _. elim (lit_cases v both.0) [ inl is ↦ holds_by v lits both.0 both.1 is | inr is ↦ holds_by v lits (complement both.0) both.2 is ],
      λ _. All-nil (HoldsIn v),
    )
    by (Some clause) of = (
      λ all. let h = All-head (HoldsIn v) clause [] all in holds_by v lits h.1 ((of.members h.1).0 (h.0, h.2, h.3)) h.4,
      λ h. All-cons (HoldsIn v) clause [] (holds_by v clause h.1 ((of.members h.1).1 (h.0, h.2, h.3)) h.4) (All-nil (HoldsIn v)),
    )

-- ---- what is added
-- a clause that was made of a copy of the list
pub made_of : (made : Option (List Lit)) (clause copy lits : List Lit) → made ≡ Some clause → copy ≡ lits → IfSome made (IsClauseOf copy) → IsClauseOf lits clause
made_of made clause copy lits is same of =
    let here : IsClauseOf copy clause = subst (λ (o : Option (List Lit)). IfSome o (IsClauseOf copy)) is of in
    subst (λ (ls : List Lit). IsClauseOf ls clause) same here

-- the list's clause is added, or none
pub one_added : (c : Clauses) (lits clause : List Lit) → IsClauseOf lits clause → with_clause c clause ≡ with_list c lits
one_added c lits clause of =
    ap (λ (o : Option (List Lit)). let d : Clauses = record c { clauses = c.clauses ++ option_to_list o } in d) (sym (clause_found lits clause of))

pub none_added : (c : Clauses) (lits : List Lit) → HasBothSigns lits → c ≡ with_list c lits
none_added c lits both =
    ap (λ (cs : List (List Lit)). let d : Clauses = record c { clauses = cs } in d) (sym (append-nil c.clauses))
    ∙ ap (λ (o : Option (List Lit)). let d : Clauses = record c { clauses = c.clauses ++ option_to_list o } in d) (sym (clause_missing lits both))
