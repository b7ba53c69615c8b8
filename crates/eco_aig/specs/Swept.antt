-- Edges that stand for the nodes of a graph.
use Rattle.std.specs.Prelude.{◌≡◌, ℕ, Bool, List, Some, None, slice_get}
use Rattle.std.specs.List.{AllZip}
use Rattle.eco_aig.specs.declared.edge.Edge.{Edge}
use Rattle.eco_aig.specs.declared.node.Node.{Node}
use Rattle.eco_lists.specs.Bits.{exactly_one}
use Rattle.eco_aig.specs.Edges.{value_of}
use Rattle.eco_aig.specs.Graph.{HasValue}

-- the edge at each node's place in the map is one of the graph, and has the node's bit under every valuation
abbrev pub IsSwept : List Node → List Edge → Type 0
IsSwept nodes map = (k : ℕ) (e : Edge) → slice_get map k ≡ Some e → HasValue nodes e (λ w. w k)

-- each of the edges has an image, in order: an edge of the graph with the same bit under every valuation
abbrev pub AreImages : List Node → List Edge → List Edge → Type 0
AreImages nodes edges images = AllZip (λ e r. HasValue nodes r (λ w. value_of w e)) edges images

-- the image stands for the edge: it has the bit of what the map has for the edge's node, complemented where the edge is, and
-- is the edge itself where the map has nothing for this node
pub record StandsFor (map : List Edge) (e image : Edge) : Type 0 where
  pub found : (f : Edge) (w : ℕ → Bool) → slice_get map e.node ≡ Some f → value_of w image ≡ exactly_one e.complemented (value_of w f)
  pub itself : slice_get map e.node ≡ None → image ≡ e
