-- One graph copied into another.
use Rattle.std.specs.Prelude.{◌≡◌, ℕ, ◌<◌, Bool, if◌then◌else◌, List, None, Some, length, map, slice_get, slice_index_or}
use Rattle.eco_aig.specs.declared.edge.Edge.{Edge}
use Rattle.eco_aig.specs.declared.node.Node.{Node}
use Rattle.eco_aig.specs.Edges.{value_of, plain, complement}
use Rattle.eco_aig.specs.Graph.{IsValuation, IsEdge, inputs_of, pair_at}

-- the edge of the one graph has the value of the other graph's root, wherever the inputs of both have the same bits, in order
pub record IsGraft (nodes from : List Node) (root e : Edge) : Type 0 where
  pub within : IsEdge nodes e
  pub value : (u w : ℕ → Bool) → IsValuation nodes u → IsValuation from w → map u (inputs_of nodes) ≡ map w (inputs_of from)
      → value_of u e ≡ value_of w root

-- the table has an image of the node
pub record HasImage (nodes from : List Node) (images : List Edge) (k : ℕ) : Type 0 where
  pub image : Edge
  pub at : slice_get images k ≡ Some image
  pub graft : IsGraft nodes from (plain k) image

-- the table has images of the nodes before this one, and of all that are no and-nodes
pub record AreImages (nodes from : List Node) (done : ℕ) (images : List Edge) : Type 0 where
  pub count : length images ≡ length from
  pub leaves : (k : ℕ) → k < length from → pair_at from k ≡ None → HasImage nodes from images k
  pub before : (k : ℕ) → k < done → HasImage nodes from images k

-- the edge to the image of an edge's node, with the edge's sign
abbrev pub image_of : List Edge → Edge → Edge
image_of images e = if e.complemented then complement (slice_index_or images e.node (plain 0)) else slice_index_or images e.node (plain 0)
