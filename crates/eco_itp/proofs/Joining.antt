-- Partial interpolants of resolvents, and what stays where the graph grows.
use Rattle.std.proofs.Common.{◌≡◌, ◌≢◌, ℕ, Bool, true, false, ◌&&◌, ◌||◌, cond, List, ◌⊎◌, inl, inr, refl, sym, ◌∙◌, ap}
use Rattle.std.proofs.lemmas.Bool.{and_parts, and_cases, or_parts, or_cases, true≢false, false≢true}
use Rattle.eco_lists.proofs.Tests.{cases_bits}
use Rattle.eco_trace.proofs.ProofLaws.{not_both}
use Rattle.eco_trace.specs.declared.clause.Var.{Var}
use Rattle.eco_trace.specs.declared.clause.Lit.{Lit}
use Rattle.eco_trace.specs.Clauses.{IsTrueIn}
use Rattle.eco_trace.specs.Resolution.{IsResolvent}
use Rattle.eco_aig.specs.declared.edge.Edge.{Edge}
use Rattle.eco_aig.specs.declared.node.Node.{Node}
use Rattle.eco_aig.specs.Edges.{value_of}
use Rattle.eco_aig.specs.Graph.{HasValue, Grows}
use Rattle.eco_aig.proofs.Growing.{valuation_of_older, edge_stays}
use Rattle.eco_itp.specs.declared.parts.Parts.{Parts}
use Rattle.eco_itp.specs.Parts.{occurs}
use Rattle.eco_itp.specs.Partial.{IsPartial}
use Rattle.eco_itp.proofs.Resolving.{kept_left, kept_right, kept_of_both}

-- the value of a resolvent: by the pivot's place the conjunction or the disjunction
abbrev pub joined : Bool → Bool → Bool → Bool
joined in_b left right = cond in_b (left && right) (left || right)

-- where the pivot's place is the bit, both values are the bit; else one of them is
joined_both : (in_b bit left right : Bool) → joined in_b left right ≡ bit → in_b ≡ bit → (left ≡ bit) × (right ≡ bit)
joined_both true true left right e s = and_parts left right e
joined_both true false left right e s = absurd (true≢false s)
joined_both false true left right e s = absurd (false≢true s)
joined_both false false left right e s = or_parts left right e

joined_one : (in_b bit left right : Bool) → joined in_b left right ≡ bit → in_b ≢ bit → (left ≡ bit) ⊎ (right ≡ bit)
joined_one true true left right e s = absurd (s refl)
joined_one true false left right e s = and_cases left right e
joined_one false true left right e s = or_cases left right e
joined_one false false left right e s = absurd (s refl)

-- the resolvent's edge is a partial interpolant of it
pub partial_resolvent : (p : Parts) (nodes : List Node) (left right clause : List Lit) (pivot : Var) (e f g : Edge) → IsResolvent left right pivot clause → IsPartial p nodes left e → IsPartial p nodes right f → HasValue nodes g (λ w. cond (occurs p pivot) (value_of w e && value_of w f) (value_of w e || value_of w f)) → IsPartial p nodes clause g
partial_resolvent p nodes left right clause pivot e f g r one two has = record {
  formed = r.clause_itself;
  within = has.within;
  says = λ w v bit valuation follows model is.
      let Q : Lit → Type 0 = λ l. (occurs p l.var ≡ bit) × IsTrueIn v l in
      let value : joined (occurs p pivot) (value_of w e) (value_of w f) ≡ bit = sym (has.value w valuation) ∙ is in
      elim (cases_bits (occurs p pivot) bit) [
        | inl same ↦
            let both = joined_both (occurs p pivot) bit (value_of w e) (value_of w f) value same in
            kept_of_both Q left right clause pivot one.formed two.formed r (λ l q n. not_both v l q.1 n.1) (one.says w v bit valuation follows model both.0) (two.says w v bit valuation follows model both.1)
        | inr apart ↦ elim (joined_one (occurs p pivot) bit (value_of w e) (value_of w f) value apart) [
          | inl first ↦
              let a = one.says w v bit valuation follows model first in
              kept_left Q left right clause pivot r a (λ at. apart (ap (λ (x : Var). occurs p x) (sym at) ∙ (a.4).0))
          | inr second ↦
              let a = two.says w v bit valuation follows model second in
              kept_right Q left right clause pivot r a (λ at. apart (ap (λ (x : Var). occurs p x) (sym at) ∙ (a.4).0))
        ]
      ];
  alone = λ w u here there agree.
      let first : value_of w e ≡ value_of u e = one.alone w u here there agree in
      let second : value_of w f ≡ value_of u f = two.alone w u here there agree in
      has.value w here ∙ ap (λ b. joined (occurs p pivot) b (value_of w f)) first ∙ ap (λ b. joined (occurs p pivot) (value_of u e) b) second ∙ sym (has.value u there);
}

-- a partial interpolant stays one in a larger graph
pub partial_stays : (p : Parts) (old new : List Node) (most : ℕ) (clause : List Lit) (e : Edge) → Grows old new most → IsPartial p old clause e → IsPartial p new clause e
partial_stays p old new most clause e grows is = record {
  formed = is.formed;
  within = edge_stays old new most e grows is.within;
  says = λ w v bit valuation. is.says w v bit (valuation_of_older old new most w grows valuation);
  alone = λ w u here there. is.alone w u (valuation_of_older old new most w grows here) (valuation_of_older old new most u grows there);
}
