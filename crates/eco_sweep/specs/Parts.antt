-- A part of a graph, copied into a graph of its own.
use Rattle.std.specs.Prelude.{◌≡◌, ℕ, Bool, ◌&&◌, List, Some, slice_get}
use Rattle.eco_aig.specs.declared.edge.Edge.{Edge}
use Rattle.eco_aig.specs.declared.node.Node.{Node}
use Rattle.eco_aig.specs.Edges.{value_of}
use Rattle.eco_aig.specs.Graph.{IsValuation, IsEdge}

-- the copies have the bits under u, a valuation of the part, that their nodes have under w
pub record Carries (nodes : List ℕ) (part : List Node) (copies : List Edge) (w u : ℕ → Bool) : Type 0 where
  pub valuation : IsValuation part u
  pub same : (i k : ℕ) (c : Edge) → slice_get nodes i ≡ Some k → slice_get copies i ≡ Some c → value_of u c ≡ w k

-- the first of the nodes have copies in the part, and whatever bits the nodes have under a valuation of the whole graph,
-- the copies have under some valuation of the part
pub record Mirrors (whole : List Node) (nodes : List ℕ) (part : List Node) (copies : List Edge) : Type 0 where
  pub within : (i : ℕ) (c : Edge) → slice_get copies i ≡ Some c → IsEdge part c
  pub carried : (w : ℕ → Bool) → IsValuation whole w → (u : ℕ → Bool) × Carries nodes part copies w u

-- the edge of the part is a copy of the edge of the whole graph
pub record IsCopy (nodes : List ℕ) (part : List Node) (copies : List Edge) (e c : Edge) : Type 0 where
  pub within : IsEdge part c
  pub same : (w u : ℕ → Bool) → Carries nodes part copies w u → value_of u c ≡ value_of w e

-- the node is the conjunction of what the two edges of the part are copies of
pub record AreOperandCopies (whole : List Node) (nodes : List ℕ) (part : List Node) (copies : List Edge) (k : ℕ) (first second : Edge) : Type 0 where
  pub first_within : IsEdge part first
  pub second_within : IsEdge part second
  pub conjunction : (w u : ℕ → Bool) → IsValuation whole w → Carries nodes part copies w u → w k ≡ (value_of u first && value_of u second)
