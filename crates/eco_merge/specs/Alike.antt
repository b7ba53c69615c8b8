-- Nodes that are equal or complementary, and nodes that are constant.
use Rattle.std.specs.Prelude.{◌≡◌, ℕ, zero, suc, Bool, true, false, not, List, Option, Some, None}
use Rattle.eco_aig.specs.declared.edge.Edge.{Edge}
use Rattle.eco_aig.specs.declared.node.Node.{Node}
use Rattle.eco_aig.specs.Graph.{IsValuation, pair_at}

-- the bit of another node, or 0 where there is none
abbrev pub bit_of : (ℕ → Bool) → Option ℕ → Bool
bit_of w None = false
bit_of w (Some m) = w m

-- the bit, or its complement where `same` is false
abbrev pub turned : Bool → Bool → Bool
turned true bit = bit
turned false bit = not bit

-- under every valuation node n has the bit of the other node where `same` is true, and its complement where it is
-- false; without another node, n is the constant 0 where `same` is true, and 1 where it is false
pub record IsAlike (nodes : List Node) (n : ℕ) (other : Option ℕ) (same : Bool) : Type 0 where
  pub bits : (w : ℕ → Bool) → IsValuation nodes w → w n ≡ turned same (bit_of w other)

-- the node is a conjunction
pub record IsAndNode (nodes : List Node) (k : ℕ) : Type 0 where
  pub first : Edge
  pub second : Edge
  pub operands : pair_at nodes k ≡ Some (first, second)

-- the node as the other one of a pair; node 0, the constant, is none
abbrev pub other_of : ℕ → Option ℕ
other_of zero = None
other_of (suc k) = Some (suc k)
