-- Boards in whose graph equal nodes are merged, and rows of bits whose edges are kept.
use Rattle.std.specs.Prelude.{◌≡◌, ℕ, Bool, List, length, All, Contains}
use Rattle.eco_meaning.specs.Circuit.{Circuit, names, AreTargets}
use Rattle.eco_meaning.specs.Meaning.{Goal}
use Rattle.eco_aig.specs.declared.edge.Edge.{Edge}
use Rattle.eco_aig.specs.declared.node.Node.{Node}
use Rattle.eco_aig.specs.Graph.{Grows}
use Rattle.eco_aig.specs.Swept.{IsSwept}
use Rattle.eco_affine.specs.Forms.{IsFormed}
use Rattle.eco_aig.specs.Inputs.{AreInputs}
use Rattle.eco_pose.specs.declared.board.Board.{Board}
use Rattle.eco_pose.specs.Boards.{AreBaseEdges, AsksOf, IsLaidOut, IsRowEdge, KeepsEdges}
use Rattle.eco_desk.specs.declared.swept.SweptBoard.{SweptBoard}
use Rattle.eco_desk.specs.declared.known_rows.KnownRow.{KnownRow}

-- the graph grew from one that has these inputs alone
pub record GrewFromInputs (graph : List Node) (inputs : List Edge) : Type 0 where
  pub origin : List Node
  pub are_inputs : AreInputs origin inputs
  pub most : ℕ
  pub grows : Grows origin graph most

-- what is known of the graph's nodes, by their forms and by comparing them, is true of it, and both have one limit
pub record AreMerged (swept : SweptBoard) : Type 0 where
  pub sweeper : IsSwept swept.board.graph swept.sweeper.map
  pub forms : IsFormed swept.board.graph swept.forms
  pub limit : swept.forms.limit ≡ swept.sweeper.limit

-- the board tells what the goal asks of netlists with the ports of f, its graph has f's inputs alone, and what is known of
-- equal nodes is true of it
pub record IsSweptBoardOf (f : Circuit) (goal : Goal) (swept : SweptBoard) : Type 0 where
  pub laid_out : IsLaidOut f swept.board
  pub asks : AsksOf f goal swept.board
  pub inputs : GrewFromInputs swept.board.graph swept.board.inputs.items
  pub merged : AreMerged swept

-- but for a graph that grew, and for what is known of it, the boards are the same, and comparing has the same limit
pub record Continues (old new : SweptBoard) : Type 0 where
  pub keeps : KeepsEdges old.board new.board
  pub most : ℕ
  pub grows : Grows old.board.graph new.board.graph most
  pub merged : AreMerged new
  pub limit : new.sweeper.limit ≡ old.sweeper.limit

-- these are the edges of all nets of the netlist, in order: under each valuation some consistent map has their bits
pub record AreNetEdges (n : Circuit) (board : Board) (edges : List Edge) : Type 0 where
  pub count : length edges ≡ length (names n)
  pub valued : AreBaseEdges n (names n) board.graph board.inputs.items edges

-- the board tells what the goal asks of the netlist, which has these targets, and the edge of each of the rows tells where
-- the netlist isn't right with it
pub record AreKnown (n : Circuit) (goal : Goal) (targets : List (List ℕ)) (board : Board) (known : List KnownRow) : Type 0 where
  pub f : Circuit
  pub same_inputs : n.inputs ≡ f.inputs
  pub same_outputs : n.outputs ≡ f.outputs
  pub are_targets : AreTargets n targets
  pub laid_out : IsLaidOut n board
  pub asks : AsksOf f goal board
  pub rows : All (λ t. IsRowEdge n goal targets board.graph board.inputs.items t.row t.edge) known

-- there is a goal of which that is so
abbrev pub AreKnownOfSome : Circuit → Board → List KnownRow → Type 0
AreKnownOfSome n board known = (goal : Goal) × (targets : List (List ℕ)) × AreKnown n goal targets board known

-- it stays so, whatever the goal is
abbrev pub StayKnown : Circuit → Board → List KnownRow → Board → List KnownRow → Type 0
StayKnown n old known new more = (goal : Goal) (targets : List (List ℕ)) → AreKnown n goal targets old known → AreKnown n goal targets new more

-- the edge stands in the list beside the row
abbrev pub IsListed : List KnownRow → List Bool → Edge → Type 0
IsListed known row e = (t : KnownRow) × Contains known t × (t.row ≡ row) × (t.edge ≡ e)
