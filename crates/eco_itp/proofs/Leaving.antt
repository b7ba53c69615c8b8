-- Partial interpolants of the clauses that a proof begins with.
use Rattle.std.proofs.Common.{◌≡◌, ℕ, zero, suc, ◌+◌, ◌<◌, [], ◌∷◌, ◌++◌, length, get_or, take, arith, All, IsSome, Bool, true, false, not, ◌&&◌, ◌||◌, cond, List, Option, Some, inl, inr, refl, sym, ◌∙◌, ap, subst, Any, Contains, unwrap_or}
use Rattle.std.specs.List.{slice_get}
use Rattle.std.proofs.lemmas.Option.{slice_get_within, slice_get-get_or}
use Rattle.std.proofs.lemmas.List.Elements.{Contains-get_or, All-contains}
use Rattle.std.proofs.lemmas.List.Folds.{list_any_more}
use Rattle.std.proofs.lemmas.Bool.{cases_Bool, and_parts, and_from, false_from_ne_true, true≢false}
use Rattle.eco_lists.proofs.Tests.{same_sign, sign_true}
use Rattle.eco_aig.proofs.Conjunctions.{value_of-complement}
use Rattle.eco_trace.specs.declared.clause.Var.{Var}
use Rattle.eco_trace.specs.declared.clause.Lit.{Lit}
use Rattle.eco_trace.specs.Clauses.{IsClause, Valuation, IsTrueIn}
use Rattle.eco_aig.specs.declared.edge.Edge.{Edge}
use Rattle.eco_aig.specs.declared.node.Node.{Node}
use Rattle.eco_aig.specs.declared.node.Node.TheVariants.{Zero}
use Rattle.eco_aig.specs.Edges.{complement, plain, value_of}
use Rattle.eco_aig.specs.Graph.{IsGraph, IsValuation, HasValue, IsEdge, Grows}
use Rattle.eco_aig.proofs.Growing.{valuation_of_older}
use Rattle.eco_itp.specs.declared.parts.Parts.{Parts}
use Rattle.eco_trace.specs.Split.{Split, BelongsTo, OccursIn, IsShared, IsModelOf}
use Rattle.eco_itp.specs.Between.{IsCovered, Follows}
use Rattle.eco_itp.specs.Parts.{AreParts, AreWithin, split_of, occurs, edge_of, literal_edge, leaf_value}
use Rattle.eco_itp.specs.Partial.{IsPartial}
use Rattle.eco_trace.proofs.Occurring.{Any_from_test, test_from_Any}
use Rattle.eco_itp.proofs.Lists.{Any_from, Any_weaker, list_any_agree}

-- a variable of a clause of the part occurs in the part
occurs_by : (s : Split) (part : Bool) (clause : List Lit) (l : Lit) → BelongsTo s part clause → Contains clause l → OccursIn s part l.var
occurs_by s part clause l belongs m = (clause, belongs, Any_from (λ (k : Lit). k.var ≡ l.var) clause l m refl)

-- a variable of a clause of A that occurs in B is shared
pub shared_by : (p : Parts) (clause : List Lit) (l : Lit) → AreParts p → BelongsTo (split_of p) true clause → Contains clause l → occurs p l.var ≡ true → IsShared (split_of p) l.var
shared_by p clause l parts belongs m in_b =
    record { in_a = occurs_by (split_of p) true clause l belongs m; in_b = (parts.occurs_is l.var).0 in_b }

-- it has an edge
pub edge_by : (p : Parts) (x : Var) → AreParts p → IsCovered (split_of p) p.shared.now → IsShared (split_of p) x → (e : Edge) × Contains p.shared.now (x, e) × (edge_of p x ≡ Some e)
edge_by p x parts covered is =
    let has = covered x is in
    (has.0, has.1, (parts.edge_is x has.0).1 has.1)

-- the value of a literal's edge, from that of its variable's
pub literal_value : (p : Parts) (w : ℕ → Bool) (l : Lit) (e : Edge) → edge_of p l.var ≡ Some e → value_of w (literal_edge p l) ≡ cond l.positive (value_of w e) (not (value_of w e))
literal_value p w l e is =
    let same : unwrap_or (edge_of p l.var) (plain 0) ≡ e = ap (λ o. unwrap_or o (plain 0)) is in
    elim (cases_Bool l.positive) [
      | inl plus ↦ rw (plus, same) refl
      | inr minus ↦ rw (minus, same) (value_of-complement w e)
    ]

-- where a valuation of the variables follows the edges, a shared literal is true where its edge is 1
literal_true : (p : Parts) (w : ℕ → Bool) (v : Valuation) (l : Lit) → AreParts p → IsCovered (split_of p) p.shared.now → Follows (split_of p) p.shared.now w v → IsShared (split_of p) l.var → value_of w (literal_edge p l) ≡ true → IsTrueIn v l
literal_true p w v l parts covered follows is e =
    let has = edge_by p l.var parts covered is in
    follows l.var has.0 is has.1 ∙ sym (same_sign l.positive (value_of w has.0) (sym (literal_value p w l has.0 has.2) ∙ e))

-- and its edge is 1 where it is true
literal_one : (p : Parts) (w : ℕ → Bool) (v : Valuation) (l : Lit) → AreParts p → IsCovered (split_of p) p.shared.now → Follows (split_of p) p.shared.now w v → IsShared (split_of p) l.var → IsTrueIn v l → value_of w (literal_edge p l) ≡ true
literal_one p w v l parts covered follows is e =
    let has = edge_by p l.var parts covered is in
    literal_value p w l has.0 has.2 ∙ sign_true l.positive (value_of w has.0) (sym (follows l.var has.0 is has.1) ∙ e)

-- the disjunction of the literals whose variables occur in B is a partial interpolant of a clause of A
pub partial_of_a : (p : Parts) (nodes : List Node) (clause : List Lit) (e : Edge) → AreParts p → IsCovered (split_of p) p.shared.now → IsClause clause → BelongsTo (split_of p) true clause → HasValue nodes e (λ w. leaf_value p w clause) → IsPartial p nodes clause e
partial_of_a p nodes clause e parts covered formed belongs has = record {
  formed = formed;
  within = has.within;
  says = λ w v bit valuation follows. by_bit w v bit valuation follows (has.value w valuation);
  alone = λ w u here there agree.
      has.value w here ∙ list_any_agree (λ l. occurs p l.var && value_of w (literal_edge p l)) (λ l. occurs p l.var && value_of u (literal_edge p l)) clause (λ l m.
      elim (cases_Bool (occurs p l.var)) [
        | inl in_b ↦
            let is = shared_by p clause l parts belongs m in_b in
            let has = edge_by p l.var parts covered is in
            let same : value_of w has.0 ≡ value_of u has.0 = agree l.var has.0 is has.1 in
            let first = literal_value p w l has.0 has.2 in
            let second = literal_value p u l has.0 has.2 in
            cc
        | inr not_in_b ↦ cc
      ]) ∙ sym (has.value u there);
}
  where
    by_bit : (w : ℕ → Bool) (v : Valuation) (bit : Bool) → IsValuation nodes w → Follows (split_of p) p.shared.now w v → value_of w e ≡ leaf_value p w clause → IsModelOf (split_of p) (not bit) v → value_of w e ≡ bit → Any (λ l. (occurs p l.var ≡ bit) × IsTrueIn v l) clause
    by_bit w v true valuation follows value model is =
        Any_weaker (λ l. (occurs p l.var && value_of w (literal_edge p l)) ≡ true) (λ l. (occurs p l.var ≡ true) × IsTrueIn v l) clause (λ l m passes.
        let both = and_parts (occurs p l.var) (value_of w (literal_edge p l)) passes in
        (both.0, literal_true p w v l parts covered follows (shared_by p clause l parts belongs m both.0) both.1)) (
        Any_from_test (λ l. occurs p l.var && value_of w (literal_edge p l)) clause (sym value ∙ is))
    by_bit w v false valuation follows value model is =
        Any_weaker (IsTrueIn v) (λ l. (occurs p l.var ≡ false) × IsTrueIn v l) clause (λ l m holds. (
          false_from_ne_true (occurs p l.var) (λ in_b.
              let one = literal_one p w v l parts covered follows (shared_by p clause l parts belongs m in_b) holds in
              let passes = and_from (occurs p l.var) (value_of w (literal_edge p l)) in_b one in
              true≢false (sym (test_from_Any (λ k. occurs p k.var && value_of w (literal_edge p k)) clause m.0 l m.1 m.2 passes) ∙ sym value ∙ is)),
          holds,
        )) (
        model clause belongs)

-- the constant 1 is a partial interpolant of a clause of B
pub partial_of_b : (p : Parts) (nodes : List Node) (clause : List Lit) → AreParts p → IsGraph nodes → IsClause clause → BelongsTo (split_of p) false clause → IsPartial p nodes clause (complement (plain 0))
partial_of_b p nodes clause parts graph formed belongs = record {
  formed = formed;
  within = graph_has_zero;
  says = λ w v bit valuation follows. by_bit w v bit valuation;
  alone = λ w u here there agree. ap not (here.fits 0 Zero graph.constant) ∙ sym (ap not (there.fits 0 Zero graph.constant));
}
  where
    graph_has_zero : IsEdge nodes (complement (plain 0))
    graph_has_zero = slice_get_within nodes 0 Zero graph.constant

    by_bit : (w : ℕ → Bool) (v : Valuation) (bit : Bool) → IsValuation nodes w → IsModelOf (split_of p) (not bit) v → value_of w (complement (plain 0)) ≡ bit → Any (λ l. (occurs p l.var ≡ bit) × IsTrueIn v l) clause
    by_bit w v true valuation model is =
        Any_weaker (IsTrueIn v) (λ l. (occurs p l.var ≡ true) × IsTrueIn v l) clause (λ l m holds.
        ((parts.occurs_is l.var).1 (occurs_by (split_of p) false clause l belongs m), holds)) (model clause belongs)
    by_bit w v false valuation model is =
        absurd (true≢false (sym (ap not (valuation.fits 0 Zero graph.constant)) ∙ is))

-- a clause that the proof begins with
pub original_at : {X : Type 0} (xs ys : List X) (k : ℕ) (x : X) → k < length xs → slice_get (xs ++ ys) k ≡ Some x → slice_get xs k ≡ Some x
original_at [] ys k x lt at = absurd (omega arith)
original_at (y ∷ xs) ys zero x lt at = at
original_at (y ∷ xs) ys (suc k) x lt at = original_at xs ys k x (omega arith) at

-- the clause belongs to the part of its mark
pub belongs_by : (p : Parts) (k : ℕ) (clause : List Lit) (part : Bool) → k < length p.side.now → slice_get p.trace.now.originals k ≡ Some clause → get_or p.side.now k false ≡ part → BelongsTo (split_of p) part clause
belongs_by p k clause part within at mark = (k, at, slice_get-get_or p.side.now k false within ∙ ap Some mark)

-- a literal of a clause of A whose variable occurs in B has an edge
pub literals_have_edges : (p : Parts) (clause : List Lit) → AreParts p → IsCovered (split_of p) p.shared.now → BelongsTo (split_of p) true clause → All (λ l. occurs p l.var ≡ true → IsSome (edge_of p l.var)) clause
literals_have_edges p clause parts covered belongs = λ k d lt in_b.
    let l = get_or clause k d in
    let has = edge_by p l.var parts covered (shared_by p clause l parts belongs (Contains-get_or clause k d lt) in_b) in
    subst (λ (o : Option Edge). IsSome o) (sym has.2) refl

literal_node : (p : Parts) (nodes : List Node) (l : Lit) (e : Edge) → edge_of p l.var ≡ Some e → IsEdge nodes e → IsEdge nodes (literal_edge p l)
literal_node p nodes l e is within =
    let same : e ≡ unwrap_or (edge_of p l.var) (plain 0) = sym (ap (λ o. unwrap_or o (plain 0)) is) in
    elim (cases_Bool l.positive) [
      | inl plus ↦ rw plus (subst (IsEdge nodes) same within)
      | inr minus ↦ rw minus (subst (IsEdge nodes) same within)
    ]

-- it is an edge of the graph
pub literals_within : (p : Parts) (nodes : List Node) (clause : List Lit) → AreParts p → IsCovered (split_of p) p.shared.now → BelongsTo (split_of p) true clause → AreWithin p nodes → All (λ l. occurs p l.var ≡ true → IsEdge nodes (literal_edge p l)) clause
literals_within p nodes clause parts covered belongs within = λ k d lt in_b.
    let l = get_or clause k d in
    let has = edge_by p l.var parts covered (shared_by p clause l parts belongs (Contains-get_or clause k d lt) in_b) in
    literal_node p nodes l has.0 has.2 (All-contains (λ (pair : Var × Edge). IsEdge nodes pair.1) p.shared.now (l.var, has.0) within has.1)

-- one more literal
pub leaf_more : (p : Parts) (old new : List Node) (clause : List Lit) (i : ℕ) (d : Lit) (e g : Edge) → i < length clause → Grows old new 1 → HasValue old e (λ w. leaf_value p w (take i clause)) → HasValue new g (λ w. value_of w e || (occurs p (get_or clause i d).var && value_of w (literal_edge p (get_or clause i d)))) → HasValue new g (λ w. leaf_value p w (take (i + 1) clause))
leaf_more p old new clause i d e g lt grows older has = record {
  within = has.within;
  value = λ w valuation.
      let test : Lit → Bool = λ l. occurs p l.var && value_of w (literal_edge p l) in
      has.value w valuation ∙ ap (λ b. b || test (get_or clause i d)) (older.value w (valuation_of_older old new 1 w grows valuation)) ∙ sym (list_any_more test clause i d lt);
}
