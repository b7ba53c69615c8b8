-- Edges that tell what is asked of an implementation at an input.
use Rattle.std.specs.Prelude.{◌≡◌, ◌↔◌, ℕ, ◌+◌, Bool, true, List, Option, Some, None, map, Contains}
use Rattle.eco_meaning.specs.Circuit.{Circuit, Values, IsConsistent, AgreeOn}
use Rattle.eco_meaning.specs.Meaning.{Goal, IsCared}
use Rattle.eco_netlist.specs.Netlists.{IsChecked}
use Rattle.eco_aig.specs.declared.edge.Edge.{Edge}
use Rattle.eco_aig.specs.declared.node.Node.{Node}
use Rattle.eco_aig.specs.Edges.{value_of, bits_of}
use Rattle.eco_aig.specs.Graph.{IsEdge, IsValuation}
use Rattle.eco_compile.specs.Compiled.{AreEdges, needed_nodes}
use Rattle.eco_query.specs.Problem.{IsClosed, IsCareOf}

-- the goal can be asked of a netlist with f's ports: the specification has the same inputs and outputs and no target; where
-- there is a cared netlist, it is one of f
pub record IsGoalOf (f : Circuit) (goal : Goal) : Type 0 where
  pub checked : IsChecked goal.spec
  pub inputs : (name : List ℕ) → Contains f.inputs name ↔ Contains goal.spec.inputs name
  pub outputs : (name : List ℕ) → Contains f.outputs name ↔ Contains goal.spec.outputs name
  pub closed : IsClosed goal.spec
  pub care : (c : Circuit) → goal.care ≡ Some c → IsCareOf f c

-- v has the bits of the edges at f's inputs
abbrev pub HasInputs : Circuit → List Edge → (ℕ → Bool) → Values → Type 0
HasInputs f inputs w v = map v f.inputs ≡ bits_of w inputs

-- Where f's inputs have the bits of the edges `inputs`, the specification gives f's outputs the bits of the edges
-- `outputs`, and the inputs are cared exactly where the edge `cared` is 1.
pub record AreGoalEdges (f : Circuit) (goal : Goal) (nodes : List Node) (inputs outputs : List Edge) (cared : Edge) : Type 0 where
  pub within : AreEdges nodes outputs
  pub cared_within : IsEdge nodes cared
  pub some : (w : ℕ → Bool) → IsValuation nodes w → (v : Values) → HasInputs f inputs w v →
      (u : Values) × IsConsistent goal.spec u × AgreeOn f.inputs v u
  pub outputs_are : (w : ℕ → Bool) → IsValuation nodes w → (v u : Values) → HasInputs f inputs w v →
      IsConsistent goal.spec u → AgreeOn f.inputs v u → map u f.outputs ≡ bits_of w outputs
  pub cared_is : (w : ℕ → Bool) → IsValuation nodes w → (v : Values) → HasInputs f inputs w v →
      (value_of w cared ≡ true) ↔ IsCared goal.care v

-- how many nodes the goal's netlists may take
abbrev pub care_nodes : Option Circuit → ℕ
care_nodes None = 0
care_nodes (Some c) = needed_nodes c

abbrev pub goal_nodes : Goal → ℕ
goal_nodes goal = needed_nodes goal.spec + care_nodes goal.care
