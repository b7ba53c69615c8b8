-- What is to be solved: an implementation with targets, what is asked of it, and what signals cost.
use Rattle.std.specs.Prelude.{◌≡◌, ◌↔◌, ℕ, ◌<◌, ◌≤◌, List, length, Option, Some, Contains}
use Rattle.eco_meaning.specs.Circuit.{Circuit, names, IsTarget, AreTargets}
use Rattle.eco_meaning.specs.Cost.{Weights}
use Rattle.eco_meaning.specs.Meaning.{Goal}
use Rattle.eco_netlist.specs.Netlists.{IsChecked}
use Rattle.eco_netlist.specs.Refusals.{NeverComes}
use Rattle.eco_query.specs.declared.TheConstants.{MOST_NETS, MOST_TARGETS}
use Rattle.eco_query.specs.Ports.{is_unlike}

-- what is asked with this specification and this cared netlist, if there is one
abbrev pub goal_of : Circuit → Option Circuit → Goal
goal_of g care = record { spec = g; care = care }

-- the implementation of a problem, what is asked of it, the lines of the weight file, and the weight of an input without a
-- line
pub record ProblemValue : Type 0 where
  pub implementation : Circuit
  pub goal : Goal
  pub weights : Weights
  pub input_weight : ℕ

-- the netlist has so few nets that the sum of their weights fits 64 bits
abbrev pub HasFewNets : Circuit → Type 0
HasFewNets f = length (names f) ≤ MOST_NETS

-- the netlist has this number of targets
abbrev pub HasTargets : Circuit → ℕ → Type 0
HasTargets f count = (targets : List (List ℕ)) × AreTargets f targets × (length targets ≡ count)

-- the netlist has a target of this number, counted from 0
abbrev pub HasTargetNumber : Circuit → ℕ → Type 0
HasTargetNumber f i = (count : ℕ) × HasTargets f count × (i < count)

-- no net of the netlist is a target
abbrev pub IsClosed : Circuit → Type 0
IsClosed g = (name : List ℕ) → IsTarget g name → ⊥

-- the netlist c tells which inputs of f are cared: it has the same inputs, one output and no target
pub record IsCareOf (f c : Circuit) : Type 0 where
  pub checked : IsChecked c
  pub inputs : (name : List ℕ) → Contains f.inputs name ↔ Contains c.inputs name
  pub one_output : length c.outputs ≡ 1
  pub closed : IsClosed c

-- the implementation has targets, and not more than a problem may have
pub record HasSomeTargets (f : Circuit) : Type 0 where
  pub count : ℕ
  pub counted : HasTargets f count
  pub some : 1 ≤ count
  pub few : count ≤ MOST_TARGETS

-- the implementation f and what is asked of it are a problem: it has targets; the specification has the same ports with
-- the same directions and no target; where there is a cared netlist, it is one of f; all are checked
pub record IsProblem (f : Circuit) (goal : Goal) : Type 0 where
  pub implementation : IsChecked f
  pub specification : IsChecked goal.spec
  pub alike : NeverComes (is_unlike f goal.spec)
  pub closed : IsClosed goal.spec
  pub targets : HasSomeTargets f
  pub care : (c : Circuit) → goal.care ≡ Some c → IsCareOf f c
