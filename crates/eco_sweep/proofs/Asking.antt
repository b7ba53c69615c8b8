-- What it means that the clauses of a graph, with an edge's literal, have no model.
use Rattle.std.proofs.Common.{◌≡◌, ℕ, ◌-◌, Bool, true, false, List, [], ◌∷◌, length, refl, arith}
use Rattle.std.proofs.lemmas.List.Elements.{All-nil, All-cons}
use Rattle.eco_lists.proofs.Places.{All_at}
use Rattle.eco_aig.specs.declared.edge.Edge.{Edge}
use Rattle.eco_aig.specs.declared.node.Node.{Node}
use Rattle.eco_aig.specs.Edges.{value_of}
use Rattle.eco_trace.specs.declared.clause.Lit.{Lit}
use Rattle.eco_trace.specs.Clauses.{Valuation, HoldsIn, IsTrueIn, Satisfies}
use Rattle.eco_trace.specs.Resolution.{Proof, EndsEmpty, clauses_of}
use Rattle.eco_tseitin.specs.Models.{HasNodeBits, AreModelledWith, IsEdgeIn}
use Rattle.eco_tseitin.proofs.Modelled.{values_of, values_are}
use Rattle.eco_sweep.specs.Questions.{IsNever}

-- what a proof that ends in the empty clause begins with has no model
pub no_model : (p : Proof) → EndsEmpty p → ((v : Valuation) → Satisfies v p.originals → Satisfies v (clauses_of p)) → (v : Valuation) → Satisfies v p.originals → ⊥
no_model p ends sound v holds =
    let last : HoldsIn v [] = All_at (HoldsIn v) (clauses_of p) (length (clauses_of p) - 1) [] (sound v holds) ends in
    omega (arith, last.2)

-- then the edge's bit is 0 everywhere
pub never_one : (graph : List Node) (nodes : List ℕ) (clauses : List (List Lit)) (l : Lit) (e : Edge) → AreModelledWith graph (l ∷ []) nodes clauses → ((v : Valuation) (has : HasNodeBits graph nodes v) → IsEdgeIn v l has.bits e) → ((v : Valuation) → Satisfies v clauses → ⊥) → IsNever graph e
never_one graph nodes clauses l e models told none w valuation = by (value_of w e) refl
  where
    v : Valuation
    v = values_of nodes w

    has : HasNodeBits graph nodes v
    has = record { bits = w; valuation = valuation; same = values_are nodes w }

    by : (bit : Bool) → value_of w e ≡ bit → bit ≡ false
    by false is = refl
    by true is =
        let is_true : IsTrueIn v l = (told v has).1 is in
        absurd (none v ((models v).1 (has, All-cons (IsTrueIn v) l [] is_true (All-nil (IsTrueIn v)))))
