-- And-inverter graphs: the values of their nodes and edges, and what stays where a graph grows.
use Rattle.std.specs.Prelude.{◌≡◌, ℕ, ◌<◌, ◌≤◌, Bool, false, ◌&&◌, ◌==◌, nat_lt, if◌then◌else◌, List, ◌++◌, Option, Some, None, length, slice_get, Contains}
use Rattle.std.specs.List.{filter_map}
use Rattle.std.specs.Option.{option_and_then}
use Rattle.eco_aig.specs.declared.edge.Edge.{Edge}
use Rattle.eco_aig.specs.declared.node.Node.{Node}
use Rattle.eco_aig.specs.declared.node.Node.TheVariants.{Zero, Input, And}
use Rattle.eco_aig.specs.Edges.{complement, plain, value_of}

-- the bit fits the node: 0 at the constant, any bit at an input, the conjunction of the operands' at an and-node
abbrev pub FitsNode : (ℕ → Bool) → Node → Bool → Type 0
FitsNode w Zero bit = bit ≡ false
FitsNode w (Input number) bit = Unit {0}
FitsNode w (And a b) bit = bit ≡ (value_of w a && value_of w b)

-- a bit for each node, such that each fits its node
pub record IsValuation (nodes : List Node) (w : ℕ → Bool) : Type 0 where
  pub fits : (k : ℕ) (node : Node) → slice_get nodes k ≡ Some node → FitsNode w node (w k)

-- the edge goes to a node of the graph
abbrev pub IsEdge : List Node → Edge → Type 0
IsEdge nodes e = e.node < length nodes

-- the edge is one of the graph, and has this bit under every valuation
pub record HasValue (nodes : List Node) (e : Edge) (bit : (ℕ → Bool) → Bool) : Type 0 where
  pub within : IsEdge nodes e
  pub value : (w : ℕ → Bool) → IsValuation nodes w → value_of w e ≡ bit w

-- the operands of an and-node
abbrev pub pair_of : Node → Option (Edge × Edge)
pair_of Zero = None
pair_of (Input number) = None
pair_of (And a b) = Some (a, b)

-- the operands of the node of this number, where it is an and-node
abbrev pub pair_at : List Node → ℕ → Option (Edge × Edge)
pair_at nodes k = option_and_then pair_of (slice_get nodes k)

-- the number of an input node
abbrev pub input_number : Node → Option ℕ
input_number Zero = None
input_number (Input number) = Some number
input_number (And a b) = None

-- the numbers of the input nodes, in order
abbrev pub inputs_of : List Node → List ℕ
inputs_of nodes = filter_map input_number nodes

-- the first operand of and-node k is the one to the earlier node; no operand is a constant, and both go to nodes
-- before k
pub record AreOperands (k : ℕ) (a b : Edge) : Type 0 where
  pub first : 0 < a.node
  pub second : a.node < b.node
  pub before : b.node < k

-- a graph: node 0 is the constant, an input has its own number, operands stand in order before their node, and
-- no two nodes are equal
pub record IsGraph (nodes : List Node) : Type 0 where
  pub constant : slice_get nodes 0 ≡ Some Zero
  pub inputs : (k number : ℕ) → slice_get nodes k ≡ Some (Input number) → number ≡ k
  pub operands : (k : ℕ) (a b : Edge) → slice_get nodes k ≡ Some (And a b) → AreOperands k a b
  pub distinct : (j k : ℕ) (node : Node) → slice_get nodes j ≡ Some node → slice_get nodes k ≡ Some node → j ≡ k

-- at most so many nodes were added behind the older ones, which stay as they are, and no input
pub record Grows (old new : List Node) (most : ℕ) : Type 0 where
  pub added : List Node
  pub behind : new ≡ old ++ added
  pub few : length added ≤ most
  pub inputs : inputs_of new ≡ inputs_of old

-- the edge of a conjunction that needs no node: of a constant and an edge, of equal or of complementary edges
abbrev pub simple_and : Edge → Edge → Option Edge
simple_and a b =
    if a.node == 0 then Some (if a.complemented then b else plain 0)
    else (if b.node == 0 then Some (if b.complemented then a else plain 0)
    else (if a.node == b.node then Some (if a.complemented then (if b.complemented then a else plain 0) else (if b.complemented then plain 0 else a))
    else None))

-- the same for a disjunction
abbrev pub simple_or : Edge → Edge → Option Edge
simple_or a b = option_and_then (λ e. Some (complement e)) (simple_and (complement a) (complement b))

-- the two edges, the one to the earlier node first
abbrev pub in_order : Edge → Edge → Edge × Edge
in_order a b = if nat_lt a.node b.node then (a, b) else (b, a)

-- the edge is the plain one to an and-node that has the two operands
pub record IsConjunctionNode (nodes : List Node) (a b e : Edge) : Type 0 where
  pub plainly : e.complemented ≡ false
  pub operands : pair_at nodes e.node ≡ Some (in_order a b)

-- two maps give equal bits at each of these numbers
abbrev pub AgreeAt : List ℕ → (ℕ → Bool) → (ℕ → Bool) → Type 0
AgreeAt numbers w u = (k : ℕ) → Contains numbers k → w k ≡ u k
