-- What the nodes of a graph are mapped to.
use Rattle.std.specs.Prelude.{◌≡◌, ℕ, Bool, true, false, List, Option, Some, slice_get}
use Rattle.eco_aig.specs.declared.edge.Edge.{Edge}
use Rattle.eco_aig.specs.declared.node.Node.{Node}
use Rattle.eco_aig.specs.Edges.{complement}
use Rattle.eco_aig.specs.Graph.{HasValue}

-- the edge, or its complement where the sign is set
abbrev pub signed : Bool → Edge → Edge
signed true e = complement e
signed false e = e

-- the node has this image
abbrev pub IsImage : List (Option Edge) → ℕ → Edge → Type 0
IsImage images k e = slice_get images k ≡ Some (Some e)

-- each image has its node's value under every valuation
abbrev pub IsSwept : List Node → List (Option Edge) → Type 0
IsSwept nodes images = (k : ℕ) (e : Edge) → IsImage images k e → HasValue nodes e (λ w. w k)
