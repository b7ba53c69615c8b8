-- The nodes of a graph that edges reach.
use Rattle.std.specs.Prelude.{◌≡◌, ℕ, Bool, true, false, List, [], ◌∷◌, Option, None, Some, length, slice_index_or, Contains}
use Rattle.eco_aig.specs.declared.edge.Edge.{Edge}
use Rattle.eco_aig.specs.declared.node.Node.{Node}
use Rattle.eco_aig.specs.Graph.{pair_at}

-- the two of a pair, in order
abbrev pub both_of : Option (Edge × Edge) → List Edge
both_of None = []
both_of (Some pair) = pair.0 ∷ pair.1 ∷ []

-- the operands of the node of this number, in order: two of an and-node, none of another
abbrev pub operands_at : List Node → ℕ → List Edge
operands_at nodes k = both_of (pair_at nodes k)

-- the node reaches itself, and the operands of each and-node that it reaches
pub data Reaches (nodes : List Node) (start : ℕ) : ℕ → Type 0 where
  itself : Reaches nodes start start
  next : (k : ℕ) (e : Edge) → Reaches nodes start k → Contains (operands_at nodes k) e → Reaches nodes start e.node

-- some of the edges reaches the node
abbrev pub IsReached : List Node → List Edge → ℕ → Type 0
IsReached nodes roots k = (e : Edge) × Contains roots e × Reaches nodes e.node k

-- one bit for each node, which says whether some of the edges reaches it
pub record AreReached (nodes : List Node) (roots : List Edge) (marks : List Bool) : Type 0 where
  pub len : length marks ≡ length nodes
  pub sound : (k : ℕ) → slice_index_or marks k false ≡ true → IsReached nodes roots k
  pub complete : (k : ℕ) → IsReached nodes roots k → slice_index_or marks k false ≡ true
