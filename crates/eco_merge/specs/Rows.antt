-- Rows of bits: valuations of a graph as lists.
use Rattle.std.specs.Prelude.{◌≡◌, ◌≢◌, ℕ, ◌&&◌, Bool, List, [], ◌∷◌, ◌++◌, Option, length}
use Rattle.eco_lists.specs.Bits.{bit_at}
use Rattle.eco_aig.specs.declared.edge.Edge.{Edge}
use Rattle.eco_aig.specs.declared.node.Node.{Node}
use Rattle.eco_aig.specs.Edges.{value_of}
use Rattle.eco_aig.specs.Graph.{IsValuation}
use Rattle.eco_merge.specs.Alike.{bit_of, turned}

-- a bit for each node of the graph, such that each fits its node
pub record IsRow (nodes : List Node) (bits : List Bool) : Type 0 where
  pub count : length bits ≡ length nodes
  pub valuation : IsValuation nodes (bit_at bits)

-- the row with a bit for one more node, the conjunction of two edges
abbrev pub grown : Edge → Edge → List Bool → List Bool
grown first second bits = bits ++ (value_of (bit_at bits) first && value_of (bit_at bits) second) ∷ []

-- in this row node n hasn't the other node's bit, or not its complement where `same` is false
abbrev pub TellsApart : List Bool → ℕ → Option ℕ → Bool → Type 0
TellsApart bits n other same = bit_at bits n ≢ turned same (bit_of (bit_at bits) other)
