-- How much of a graph edges reach, and what the fixed form of their patch takes.
use Rattle.std.specs.Prelude.{◌≡◌, Bool, not, List, filter, length}
use Rattle.eco_aig.specs.declared.edge.Edge.{Edge}
use Rattle.eco_aig.specs.declared.node.Node.{Node}
use Rattle.eco_aig.specs.Reached.{AreReached}
use Rattle.eco_splice.specs.Wired.{wired}
use Rattle.eco_functions.specs.declared.sizes.Sizes.{Sizes}

-- of the edges that have a wire, those that are no complements
abbrev pub nodes_among : List Edge → List Edge
nodes_among edges = filter (λ e. not e.complemented) edges

-- the edges reach so many and-nodes, and with the complements that these read so many edges have a wire
pub record AreSizes (nodes : List Node) (roots : List Edge) (sizes : Sizes) : Type 0 where
  pub marks : List Bool
  pub reached : AreReached nodes roots marks
  pub gates : sizes.gates ≡ length (nodes_among (wired nodes marks))
  pub wires : sizes.wires ≡ length (wired nodes marks)
