-- Tables over the nodes of a graph: complements that stand, and the places of edges.
use Rattle.std.specs.Prelude.{◌≡◌, ◌<◌, ℕ, All, Contains, Bool, true, false, not, ◌&&◌, List, [], ◌∷◌, ◌++◌, Some, length, filter, slice_get, slice_index_or, if◌then◌else◌}
use Rattle.std.specs.Option.{is_some}
use Rattle.eco_aig.specs.declared.edge.Edge.{Edge}
use Rattle.eco_aig.specs.declared.node.Node.{Node}
use Rattle.eco_aig.specs.Edges.{plain}
use Rattle.eco_aig.specs.Graph.{pair_at}
use Rattle.eco_aig.specs.Reached.{operands_at}
use Rattle.eco_splice.specs.GraphPatch.{sources}
use Rattle.eco_splice.specs.declared.nets.Nets.{Nets}

-- what comes with a node where these complements stand already: new complements that are its operands, and the edge to it
abbrev pub edges_with : List Node → ℕ → List Bool → List Edge
edges_with nodes k inverted =
    if is_some (pair_at nodes k)
    then filter (λ e. e.complemented && not (slice_index_or inverted e.node false)) (operands_at nodes k) ++ plain k ∷ []
    else []

-- the place that the tables have for an edge
abbrev pub place_at : List ℕ → List ℕ → Edge → ℕ
place_at plain complemented e = slice_index_or (if e.complemented then complemented else plain) e.node 0

-- the tables have the place of each of these edges
abbrev pub ArePlaces : List ℕ → List ℕ → List Edge → Type 0
ArePlaces plain complemented edges =
    (i : ℕ) (e : Edge) → slice_get edges i ≡ Some e → place_at plain complemented e ≡ i

-- each edge has a name, and the tables have its place
pub record AreNetted (nets : Nets) : Type 0 where
  pub count : length nets.names.items ≡ length nets.edges.items
  pub tables : length nets.complemented.items ≡ length nets.plain.items
  pub within : All (λ e. e.node < length nets.plain.items) nets.edges.items
  pub places : ArePlaces nets.plain.items nets.complemented.items nets.edges.items

-- the edge is listed, and so is what its gate reads; it is a complement, or goes to an and-node
pub record HasGate (nodes : List Node) (edges : List Edge) (e : Edge) : Type 0 where
  pub listed : Contains edges e
  pub sources : All (Contains edges) (sources nodes e)
  pub pair : e.complemented ≡ false → is_some (pair_at nodes e.node) ≡ true

-- the node of the root is listed, where it isn't constant
abbrev pub HasNode : List Edge → Edge → Type 0
HasNode edges root = 0 < root.node → Contains edges (plain root.node)
