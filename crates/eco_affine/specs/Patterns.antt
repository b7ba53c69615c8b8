-- Nodes that are made of two conjunctions.
use Rattle.std.specs.Prelude.{◌≡◌, ℕ, Bool, not, ◌&&◌, List}
use Rattle.eco_aig.specs.declared.edge.Edge.{Edge}
use Rattle.eco_aig.specs.declared.node.Node.{Node}
use Rattle.eco_aig.specs.Edges.{value_of}
use Rattle.eco_aig.specs.Graph.{IsEdge, IsValuation}

-- the edge is the complement of the conjunction of the two, under every valuation
pub record IsNand (nodes : List Node) (e a b : Edge) : Type 0 where
  pub value : (w : ℕ → Bool) → IsValuation nodes w → value_of w e ≡ not (value_of w a && value_of w b)

-- under every valuation the node has bit 1 just where neither a and b both have, nor c and d
pub record IsNeither (nodes : List Node) (node : ℕ) (a b c d : Edge) : Type 0 where
  pub a_within : IsEdge nodes a
  pub b_within : IsEdge nodes b
  pub c_within : IsEdge nodes c
  pub value : (w : ℕ → Bool) → IsValuation nodes w → w node ≡ (not (value_of w a && value_of w b) && not (value_of w c && value_of w d))
