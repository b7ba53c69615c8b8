-- Clauses of given literals, and what adding clauses leaves.
use Rattle.std.proofs.Common.{◌≡◌, ◌≢◌, ◌↔◌, ℕ, zero, suc, ◌<◌, ◌≤◌, inl, inr, List, [], ◌∷◌, ◌++◌, Option, Some, None, length, get_or, refl, sym, ◌∙◌, ap, subst, arith, append_assoc}
use Rattle.std.specs.List.{All, AllPairs, AllZip}
use Rattle.std.specs.Option.{IfSome, IsNone}
use Rattle.std.proofs.lemmas.Bool.{cases_eq}
use Rattle.std.proofs.lemmas.List.{append-nil}
use Rattle.std.proofs.lemmas.List.Elements.{All-nil, All-cons, All-head, All-tail, All-append}
use Rattle.eco_lists.proofs.Tests.{not_own}
use Rattle.eco_lists.proofs.Places.{any_default, cases_unequal, zip_append}
use Rattle.eco_lists.proofs.Members.{All-front, All-back}
use Rattle.eco_trace.specs.declared.clause.Lit.{Lit}
use Rattle.eco_trace.specs.Clauses.{Clauses, Valuation, HoldsIn, Satisfies, IsClause, IsClauseOf, HasBothSigns, complement, with_clause}
use Rattle.eco_trace.specs.Adding.{AddsClausesOf, Extends, equality, with_clauses}
use Rattle.eco_trace.proofs.ClauseLaws.{clause_same}
use Rattle.eco_trace.proofs.HoldingLaws.{clauses_hold, wanted_hold}

-- literals of distinct variables have no variable with both signs
pub no_both_signs : (lits : List Lit) → AllPairs (λ l m. l.var.0 ≢ m.var.0) lits → HasBothSigns lits → ⊥
no_both_signs lits apart both =
    let l = both.0 in
    let i = both.1.0 in
    let j = both.2.0 in
    let at_i : get_or lits i l ≡ l = both.1.2 in
    let at_j : get_or lits j l ≡ complement l = any_default lits j l (complement l) both.2.1 ∙ both.2.2 in
    let var_i : (get_or lits i l).var.0 ≡ l.var.0 = ap (λ (m : Lit). m.var.0) at_i in
    let var_j : (get_or lits j l).var.0 ≡ l.var.0 = ap (λ (m : Lit). m.var.0) at_j in
    let i_in : i < length lits = both.1.1 in
    let j_in : j < length lits = both.2.1 in
    elim (cases_eq i j) [
      | inl e ↦ not_own l.positive (ap (λ (m : Lit). m.positive) (sym at_i ∙ ap (λ k. get_or lits k l) e ∙ at_j))
      | inr ne ↦ by_order lits apart l i j ne i_in j_in var_i var_j
    ]
  where
    by_order : (lits : List Lit) → AllPairs (λ l m. l.var.0 ≢ m.var.0) lits → (l : Lit) (i j : ℕ) → (i ≡ j → ⊥) → i < length lits → j < length lits → (get_or lits i l).var.0 ≡ l.var.0 → (get_or lits j l).var.0 ≡ l.var.0 → ⊥
    by_order lits apart l i j ne i_in j_in var_i var_j = elim (cases_unequal i j ne) [
      | inl lt ↦ apart i j l lt j_in (var_i ∙ sym var_j)
      | inr gt ↦ apart j i l gt i_in (var_j ∙ sym var_i)
    ]

-- the clause that was made
pub made_clause : (made : Option (List Lit)) (clause : List Lit) (P : List Lit → Type 0) → made ≡ Some clause → IfSome made P → P clause
made_clause made clause P e h = subst (λ o. IfSome o P) e h

pub no_clause : (made : Option (List Lit)) → made ≡ None → IsNone made
no_clause made e = subst IsNone (sym e) refl

-- the clause of the literals of a clause is this clause
pub clause_again : (lits clause : List Lit) → IsClause lits → IsClauseOf lits clause → clause ≡ lits
clause_again lits clause is of = clause_same clause lits of.clause_itself is (λ l. (of.members l).0) (λ l. (of.members l).1)

pub clauses_again : (wanted made : List (List Lit)) → All IsClause wanted → AllZip IsClauseOf wanted made → made ≡ wanted
clauses_again [] [] are zip = refl
clauses_again [] (c ∷ cs) are zip = absurd zip
clauses_again (w ∷ ws) [] are zip = absurd zip
clauses_again (w ∷ ws) (c ∷ cs) are zip =
    ap (λ x. x ∷ cs) (clause_again w c (All-head IsClause w ws are) zip.0) ∙ ap (λ list. w ∷ list) (clauses_again ws cs (All-tail IsClause w ws are) zip.1)

-- the one pair of two
pub two_pairs : {X : Type 0} (R : X → X → Type 0) (x y : X) → R x y → AllPairs R (x ∷ y ∷ [])
two_pairs R x y xy zero zero d lt within = absurd (omega (arith, lt))
two_pairs R x y xy zero (suc zero) d lt within = xy
two_pairs R x y xy zero (suc (suc j)) d lt within = absurd (omega (arith, within))
two_pairs R x y xy (suc i) zero d lt within = absurd (omega (arith, lt))
two_pairs R x y xy (suc i) (suc zero) d lt within = absurd (omega (arith, lt))
two_pairs R x y xy (suc i) (suc (suc j)) d lt within = absurd (omega (arith, within))

pub unit_clause : (l : Lit) → IsClause (l ∷ [])
unit_clause l i j d lt within = absurd (omega (arith, lt, within))

-- the two clauses of an equality, where the literals stand in the order of their variables
pub equality_clauses : (a b : Lit) → a.var.0 < b.var.0 → All IsClause (equality a b)
equality_clauses a b lt =
    let rises : Lit → Lit → Type 0 = λ l m. l.var.0 < m.var.0 in
    All-cons IsClause (complement a ∷ b ∷ []) ((a ∷ complement b ∷ []) ∷ []) (two_pairs rises (complement a) b lt)
    (All-cons IsClause (a ∷ complement b ∷ []) [] (two_pairs rises a (complement b) lt) (All-nil IsClause))

-- clauses are added: some behind others, and just those that are wanted
pub adds_both : (old mid new : Clauses) (front back : List (List Lit)) → AddsClausesOf old mid front → AddsClausesOf mid new back → AddsClausesOf old new (front ++ back)
adds_both old mid new front back one two = record {
  vars = two.vars ∙ one.vars;
  added = one.added ++ two.added;
  behind = two.behind ∙ ap (λ list. list ++ two.added) one.behind ∙ append_assoc old.clauses one.added two.added;
  clauses_of = zip_append IsClauseOf front one.added back two.added one.clauses_of two.clauses_of;
}

pub adds_exactly : (old new : Clauses) (wanted : List (List Lit)) → All IsClause wanted → AddsClausesOf old new wanted → new.clauses ≡ old.clauses ++ wanted
adds_exactly old new wanted are adds = adds.behind ∙ ap (λ list. old.clauses ++ list) (clauses_again wanted adds.added are adds.clauses_of)

-- the models are those of which the added clauses are true too
pub adds_satisfied : (old new : Clauses) (wanted : List (List Lit)) (v : Valuation) → AddsClausesOf old new wanted → Satisfies v new.clauses ↔ (Satisfies v old.clauses × Satisfies v wanted)
adds_satisfied old new wanted v adds = (
  λ h.
      let all : Satisfies v (old.clauses ++ adds.added) = subst (Satisfies v) adds.behind h in
      (All-front (HoldsIn v) old.clauses adds.added all, wanted_hold v wanted adds.added adds.clauses_of (All-back (HoldsIn v) old.clauses adds.added all)),
  λ h. subst (Satisfies v) (sym adds.behind) (All-append (HoldsIn v) old.clauses adds.added h.0 (clauses_hold v wanted adds.added adds.clauses_of h.1)),
)

-- nothing is added, and more is added behind what was
pub extends_same : (old new : Clauses) → new.clauses ≡ old.clauses → old.vars ≤ new.vars → Extends old new
extends_same old new same more = record { vars = more; more = []; behind = same ∙ sym (append-nil old.clauses) }

pub extends_both : (old mid new : Clauses) → Extends old mid → Extends mid new → Extends old new
extends_both old mid new one two = record {
  vars = omega (arith, one.vars, two.vars);
  more = one.more ++ two.more;
  behind = two.behind ∙ ap (λ list. list ++ two.more) one.behind ∙ append_assoc old.clauses one.more two.more;
}
