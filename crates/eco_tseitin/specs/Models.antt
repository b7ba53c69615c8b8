-- The models of a graph's clauses.
use Rattle.std.specs.Prelude.{◌≡◌, ◌↔◌, ℕ, ◌≤◌, Bool, true, List, Some, length, slice_get, All, Contains}
use Rattle.eco_aig.specs.declared.edge.Edge.{Edge}
use Rattle.eco_aig.specs.declared.node.Node.{Node}
use Rattle.eco_aig.specs.declared.node.Node.TheVariants.{Input}
use Rattle.eco_aig.specs.Edges.{value_of}
use Rattle.eco_aig.specs.Graph.{IsValuation}
use Rattle.eco_trace.specs.declared.clause.Lit.{Lit}
use Rattle.eco_trace.specs.Clauses.{Valuation, IsTrueIn, Satisfies}
use Rattle.eco_tseitin.specs.Encoding.{variable_of}

-- the variable of each of the nodes has the bit that the node has under some valuation of the graph
pub record HasNodeBits (graph : List Node) (nodes : List ℕ) (v : Valuation) : Type 0 where
  pub bits : ℕ → Bool
  pub valuation : IsValuation graph bits
  pub same : (k : ℕ) → Contains nodes k → v (variable_of nodes k).0 ≡ bits k

-- two valuations of the nodes' variables agree at the inputs of the graph
abbrev pub AgreeAtInputs : List Node → List ℕ → Valuation → Valuation → Type 0
AgreeAtInputs graph nodes v u =
    (k number : ℕ) → slice_get graph k ≡ Some (Input number) → Contains nodes k → v (variable_of nodes k).0 ≡ u (variable_of nodes k).0

-- the models of the clauses are just what valuations of the graph give to the nodes' variables; and any bits of the
-- inputs extend to exactly one model, over the variables from 1 to the number of the nodes
pub record AreModelled (graph : List Node) (nodes : List ℕ) (clauses : List (List Lit)) : Type 0 where
  pub models : (v : Valuation) → Satisfies v clauses ↔ HasNodeBits graph nodes v
  pub extends : (v : Valuation) → (u : Valuation) × Satisfies u clauses × AgreeAtInputs graph nodes v u
  pub one : (v u : Valuation) → Satisfies v clauses → Satisfies u clauses → AgreeAtInputs graph nodes v u
      → (x : ℕ) → 1 ≤ x → x ≤ length nodes → v x ≡ u x

-- the literal is true where the edge's bit is 1
abbrev pub IsEdgeIn : Valuation → Lit → (ℕ → Bool) → Edge → Type 0
IsEdgeIn v l bits e = IsTrueIn v l ↔ (value_of bits e ≡ true)

-- the models of all clauses are those of the node clauses in which the asserted literals are true
abbrev pub AreModelledWith : List Node → List Lit → List ℕ → List (List Lit) → Type 0
AreModelledWith graph asserted nodes clauses =
    (v : Valuation) → Satisfies v clauses ↔ (HasNodeBits graph nodes v × All (IsTrueIn v) asserted)
