-- Inputs that are added to a graph.
use Rattle.std.specs.Prelude.{◌≡◌, ℕ, ◌+◌, ◌++◌, List, length}
use Rattle.eco_aig.specs.declared.node.Node.{Node}
use Rattle.eco_aig.specs.Graph.{inputs_of}

-- nodes were added behind the older ones, which stay as they are, and so many of them are inputs
pub record HasMoreInputs (old : List Node) (count : ℕ) (new : List Node) : Type 0 where
  pub added : List Node
  pub behind : new ≡ old ++ added
  pub inputs : length (inputs_of new) ≡ length (inputs_of old) + count
