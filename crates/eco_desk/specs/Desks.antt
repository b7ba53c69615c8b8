-- What a desk stands for.
use Rattle.std.specs.Prelude.{◌≡◌, ℕ, Bool, true, false, List, ◌∷◌, Some, length, map}
use Rattle.eco_meaning.specs.Circuit.{Circuit, names, AreTargets}
use Rattle.eco_meaning.specs.Meaning.{Goal}
use Rattle.eco_meaning.specs.Patch.{Fits, splice_of}
use Rattle.eco_gates.specs.declared.gate.NetId.{NetId}
use Rattle.eco_netlist.specs.Netlists.{names_at}
use Rattle.eco_query.specs.Problem.{ProblemValue}
use Rattle.eco_pose.specs.declared.board.Board.{Board}
use Rattle.eco_pose.specs.Boards.{AreBaseEdges, AreRowEdges}
use Rattle.eco_desk.specs.declared.desk.Desk.{Desk}
use Rattle.eco_desk.specs.declared.turned.Turn.{Turn}
use Rattle.eco_desk.specs.declared.turned.PairEdges.{PairEdges}
use Rattle.eco_desk.specs.Boards.{AreNetEdges, IsSweptBoardOf, AreKnown, StayKnown}

-- the splice is the implementation with the patches in it, its targets are those that the patches leave, its nets have edges,
-- and the board tells where it isn't right with the rows that were asked
pub record IsTurnOf (f : Circuit) (goal : Goal) (board : Board) (turn : Turn) : Type 0 where
  pub spliced : turn.spliced ≡ splice_of f turn.patches
  pub left : (later : List (List ℕ)) → Fits f turn.patches later → AreTargets turn.spliced later
  pub nets : AreNetEdges turn.spliced board turn.nets.items
  pub zeros : (targets : List (List ℕ)) → AreTargets turn.spliced targets → AreKnown turn.spliced goal targets board turn.zeros.items
  pub ones : (targets : List (List ℕ)) → AreTargets turn.spliced targets → AreKnown turn.spliced goal targets board turn.ones.items

-- the turn is to the same target, its nets have the same edges, and what was known of its rows stays true
pub record StaysTurn (board : Board) (old : Turn) (grown : Board) (new : Turn) : Type 0 where
  pub number : new.number ≡ old.number
  pub patches : new.patches ≡ old.patches
  pub spliced : new.spliced ≡ old.spliced
  pub nets : new.nets ≡ old.nets
  pub zeros : StayKnown old.spliced board old.zeros.items grown new.zeros.items
  pub ones : StayKnown old.spliced board old.ones.items grown new.ones.items

-- the edges tell the values of the base, and where the splice isn't right with the target's bit and a rest
pub record TellsPair (board : Board) (turn : Turn) (grown : Board) (base : List NetId) (rest : List (List Bool)) (edges : PairEdges) : Type 0 where
  pub count : length edges.base.items ≡ length base
  pub valued : AreBaseEdges turn.spliced (names_at (names turn.spliced) base) grown.graph grown.inputs.items edges.base.items
  pub first : (goal : Goal) (targets : List (List ℕ)) → AreKnown turn.spliced goal targets board turn.zeros.items →
      AreRowEdges turn.spliced goal targets grown.graph grown.inputs.items (map (λ row. false ∷ row) rest) edges.first.items
  pub second : (goal : Goal) (targets : List (List ℕ)) → AreKnown turn.spliced goal targets board turn.ones.items →
      AreRowEdges turn.spliced goal targets grown.graph grown.inputs.items (map (λ row. true ∷ row) rest) edges.second.items

-- the desk is one of the problem
pub record IsDeskOf (problem : ProblemValue) (desk : Desk) : Type 0 where
  pub swept : IsSweptBoardOf problem.implementation problem.goal desk.swept
  pub known : (targets : List (List ℕ)) → AreTargets problem.implementation targets →
      AreKnown problem.implementation problem.goal targets desk.swept.board desk.known.items
  pub turned : (turn : Turn) → desk.turn ≡ Some turn → IsTurnOf problem.implementation problem.goal desk.swept.board turn

-- the most clauses that a comparison of the desk may learn
abbrev pub limit_of : Desk → ℕ
limit_of desk = desk.swept.sweeper.limit

-- the patches drive the targets before this one, and may stand in f
pub record AreBefore (f patches : Circuit) (before : List (List ℕ)) (target : List ℕ) (behind : List (List ℕ)) : Type 0 where
  pub outputs : patches.outputs ≡ before
  pub fits : Fits f patches (target ∷ behind)
