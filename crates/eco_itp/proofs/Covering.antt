-- The test of the edges, clause by clause.
use Rattle.std.proofs.Common.{◌≡◌, ℕ, ◌<◌, ◌≤◌, true, not, Option, Some, None, length, get_or, inl, inr, refl, sym, ◌∙◌, ap, subst, arith, is_some}
use Rattle.std.proofs.lemmas.Bool.{cases_Bool, or_cases, or_left, or_right, true≢false, false≢true, not-true, not_from_false}
use Rattle.std.proofs.lemmas.Option.{slice_get_within}
use Rattle.std.proofs.lemmas.List.Elements.{All-contains, Contains-get_or}
use Rattle.eco_trace.specs.declared.clause.Var.{Var}
use Rattle.eco_trace.specs.declared.clause.Lit.{Lit}
use Rattle.eco_aig.specs.declared.edge.Edge.{Edge}
use Rattle.eco_itp.specs.declared.parts.Parts.{Parts}
use Rattle.eco_itp.specs.Between.{IsCovered}
use Rattle.eco_itp.specs.Parts.{AreParts, split_of, occurs, edge_of, has_needed_edge, IsClauseCovered}
use Rattle.eco_itp.proofs.Lists.{Any_member}
use Rattle.eco_itp.proofs.Leaving.{shared_by, edge_by}

-- what is there
some_of : (o : Option Edge) → is_some o ≡ true → (e : Edge) × (o ≡ Some e)
some_of None e = absurd (false≢true e)
some_of (Some x) e = (x, refl)

-- where the test passes, a variable that occurs in B has an edge
needed_edge : (p : Parts) (x : Var) → has_needed_edge p x ≡ true → occurs p x ≡ true → (e : Edge) × (edge_of p x ≡ Some e)
needed_edge p x passes in_b =
    elim (or_cases (not (occurs p x)) (is_some (edge_of p x)) passes) [
      | inl out ↦ absurd (true≢false (sym in_b ∙ not-true (occurs p x) out))
      | inr has ↦ some_of (edge_of p x) has
    ]

-- where each clause passes, each variable that occurs in both parts has an edge
pub covered_by : (p : Parts) (n : ℕ) → AreParts p → length p.side.now ≤ n → ((k : ℕ) → k < n → IsClauseCovered p k) → IsCovered (split_of p) p.shared.now
covered_by p n parts le each = λ x is.
    let clause = is.in_a.0 in
    let place = is.in_a.1 in
    let a = is.in_a.2 in
    let within = slice_get_within p.side.now place.0 true place.2 in
    let passes : has_needed_edge p (a.1).var ≡ true = All-contains (λ (l : Lit). has_needed_edge p l.var ≡ true) clause a.1 (each place.0 (omega (arith, within, le)) clause place.1 place.2) (Any_member _ clause a) in
    let needed = subst (λ (y : Var). has_needed_edge p y ≡ true) a.4 passes in
    let has = needed_edge p x needed ((parts.occurs_is x).1 is.in_b) in
    (has.0, (parts.edge_is x has.0).0 has.1)

-- and where one doesn't, some variable has none
pub clause_by_cover : (p : Parts) (k : ℕ) → AreParts p → IsCovered (split_of p) p.shared.now → IsClauseCovered p k
clause_by_cover p k parts covered = λ clause at_clause at_mark i d lt.
    let l = get_or clause i d in
    elim (cases_Bool (occurs p l.var)) [
      | inl in_b ↦
          let has = edge_by p l.var parts covered (shared_by p clause l parts (k, at_clause, at_mark) (Contains-get_or clause i d lt) in_b) in
          or_right (not (occurs p l.var)) (is_some (edge_of p l.var)) (ap (λ (o : Option Edge). is_some o) has.2)
      | inr out ↦ or_left (not (occurs p l.var)) (is_some (edge_of p l.var)) (not_from_false (occurs p l.var) out)
    ]
