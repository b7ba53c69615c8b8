-- Edges to the inputs of a graph.
use Rattle.std.specs.Prelude.{◌≡◌, ℕ, All, Bool, List, length, map}
use Rattle.eco_aig.specs.declared.edge.Edge.{Edge}
use Rattle.eco_aig.specs.declared.node.Node.{Node}
use Rattle.eco_aig.specs.Graph.{IsGraph, IsEdge, IsValuation, Grows, inputs_of}
use Rattle.eco_aig.specs.Edges.{bits_of}

-- the edges go to the inputs of the graph, and to nothing else; whatever bits they are to have, a valuation gives them these
pub record AreInputs (nodes : List Node) (edges : List Edge) : Type 0 where
  pub within : All (IsEdge nodes) edges
  pub all : inputs_of nodes ≡ map (λ e. e.node) edges
  pub free : (bits : List Bool) → length bits ≡ length edges →
      (w : ℕ → Bool) × IsValuation nodes w × (bits_of w edges ≡ bits)

-- they stay so where the graph grows
abbrev pub InputsStay : Type 0
InputsStay =
    (old new : List Node) (most : ℕ) (edges : List Edge) → IsGraph new → Grows old new most → AreInputs old edges → AreInputs new edges
