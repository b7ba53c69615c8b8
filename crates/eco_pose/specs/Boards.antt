-- Edges that tell at which inputs a netlist is right with a row of bits of its open nets.
use Rattle.std.specs.Prelude.{◌≡◌, ℕ, ◌+◌, ◌*◌, Bool, true, false, if◌then◌else◌, List, [], ◌∷◌, Some, slice_get, length, map}
use Rattle.std.specs.List.{AllZip}
use Rattle.eco_meaning.specs.Circuit.{Circuit, Values, IsConsistent}
use Rattle.eco_meaning.specs.Meaning.{Goal, IsRight}
use Rattle.eco_aig.specs.declared.edge.Edge.{Edge}
use Rattle.eco_aig.specs.declared.node.Node.{Node}
use Rattle.eco_aig.specs.declared.node.Node.TheVariants.{Zero}
use Rattle.eco_aig.specs.Edges.{complement, value_of, bits_of}
use Rattle.eco_aig.specs.Graph.{IsEdge, IsValuation}
use Rattle.eco_compile.specs.Compiled.{AreEdges, needed_nodes}
use Rattle.eco_aig.specs.Inputs.{AreInputs}
use Rattle.eco_compile.specs.Goals.{AreGoalEdges}
use Rattle.eco_tseitin.specs.declared.sides.EncodedSide.{EncodedSide}
use Rattle.eco_tseitin.specs.Encoded.{IsEncoded}
use Rattle.eco_pose.specs.declared.board.Board.{Board}

-- the edge that has this bit in each graph: to the constant
abbrev pub constant_edge : Bool → Edge
constant_edge bit = record { node = 0; complemented = bit }

-- v has the bits of the edges at the netlist's inputs, and the row at its open nets
pub record HasRow (n : Circuit) (nets : List (List ℕ)) (inputs : List Edge) (row : List Bool) (w : ℕ → Bool) (v : Values) : Type 0 where
  pub input : map v n.inputs ≡ bits_of w inputs
  pub open_bits : map v nets ≡ row

-- the edge is 1 where the netlist isn't right with the row, and 0 where it is
pub record IsRowEdge (n : Circuit) (goal : Goal) (nets : List (List ℕ)) (nodes : List Node) (inputs : List Edge) (row : List Bool) (e : Edge) : Type 0 where
  pub within : IsEdge nodes e
  pub wrong : (w : ℕ → Bool) → IsValuation nodes w → value_of w e ≡ true →
      (v : Values) → HasRow n nets inputs row w v → IsRight n goal v → ⊥
  pub right : (w : ℕ → Bool) → IsValuation nodes w → value_of w e ≡ false →
      (v : Values) × HasRow n nets inputs row w v × IsRight n goal v

-- there is such an edge for each row
abbrev pub AreRowEdges : Circuit → Goal → List (List ℕ) → List Node → List Edge → List (List Bool) → List Edge → Type 0
AreRowEdges n goal nets nodes inputs rows edges = AllZip (IsRowEdge n goal nets nodes inputs) rows edges

-- the board has edges of its graph for the inputs, and for what is asked of the outputs
pub record IsLaidOut (n : Circuit) (board : Board) : Type 0 where
  pub constant : slice_get board.graph 0 ≡ Some Zero
  pub input_count : length board.inputs.items ≡ length n.inputs
  pub input_edges : AreEdges board.graph board.inputs.items
  pub output_count : length board.goal.outputs.items ≡ length n.outputs
  pub output_edges : AreEdges board.graph board.goal.outputs.items
  pub cared_edge : IsEdge board.graph board.goal.cared

-- they tell what the goal asks of a netlist with the ports of f
abbrev pub AsksOf : Circuit → Goal → Board → Type 0
AsksOf f goal board = AreGoalEdges f goal board.graph board.inputs.items board.goal.outputs.items board.goal.cared

-- but for the graph, the boards are the same
pub record KeepsEdges (old new : Board) : Type 0 where
  pub inputs : new.inputs ≡ old.inputs
  pub goal : new.goal ≡ old.goal

-- how many nodes a row may take
abbrev pub row_nodes : Circuit → ℕ
row_nodes n = needed_nodes n + (4 * length n.outputs + 1)

-- the edge with the sign with which it is 1 where it has the bit
abbrev pub with_sign : Edge → Bool → Edge
with_sign e bit = if bit then e else complement e

-- the edges so, as far as both lists go
abbrev pub signed : List Edge → List Bool → List Edge
signed [] bits = []
signed (e ∷ edges) [] = []
signed (e ∷ edges) (bit ∷ bits) = with_sign e bit ∷ signed edges bits

-- under each valuation some consistent map has the bits of the edges at the inputs and at these nets
pub record AreBaseEdges (n : Circuit) (base : List (List ℕ)) (nodes : List Node) (inputs edges : List Edge) : Type 0 where
  pub within : AreEdges nodes edges
  pub values : (w : ℕ → Bool) → IsValuation nodes w →
      (v : Values) × IsConsistent n v × (map v n.inputs ≡ bits_of w inputs) × (map v base ≡ bits_of w edges)

-- the side is the encoding of a graph of the netlist's inputs, with edges for the base, in which those are asserted that tell
-- that the netlist isn't right with a row
pub record IsSideGraph (n : Circuit) (goal : Goal) (nets : List (List ℕ)) (rows : List (List Bool)) (base : List (List ℕ)) (side : EncodedSide) : Type 0 where
  pub graph : List Node
  pub inputs : List Edge
  pub base_edges : List Edge
  pub asserted : List Edge
  pub are_inputs : AreInputs graph inputs
  pub input_count : length inputs ≡ length n.inputs
  pub valued : AreBaseEdges n base graph inputs base_edges
  pub wrong : AreRowEdges n goal nets graph inputs rows asserted
  pub encoded : IsEncoded graph inputs base_edges asserted side
