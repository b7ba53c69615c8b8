-- A target that an engine is turned to.
use Rattle.std.specs.Prelude.{◌≡◌, ℕ, List, [], take}
use Rattle.eco_meaning.specs.Circuit.{Circuit, names}
use Rattle.eco_gates.specs.declared.gate.NetId.{NetId}
use Rattle.eco_netlist.specs.Netlists.{names_at}
use Rattle.eco_query.specs.Problem.{ProblemValue}
use Rattle.eco_pose.specs.Questions.{AtTarget}
use Rattle.eco_desk.specs.Engines.{EngineValue}
use Rattle.eco_base.specs.Scenes.{AtScene, AreTurnsBut, IsEngineAt, IsStage}
use Rattle.eco_base.specs.Asking.{AreReadable}
use Rattle.eco_base.specs.declared.stage.Stage.{Stage}

-- a problem, how many clauses a question may learn, the number of the target that is turned to, the patches of those before it, and
-- the signals that are paid
pub record TargetValue : Type 0 where
  pub problem : ProblemValue
  pub limit : ℕ
  pub number : ℕ
  pub patches : Circuit
  pub paid : List NetId

-- the names of nets of the target's implementation, and of its paid signals
abbrev pub named_in : TargetValue → List NetId → List (List ℕ)
named_in t nets = names_at (names t.problem.implementation) nets

abbrev pub paid_of : TargetValue → List (List ℕ)
paid_of t = named_in t t.paid

-- a target of the problem with this limit, whatever it is turned to
pub record IsTargetOf (problem : ProblemValue) (limit : ℕ) (t : TargetValue) : Type 0 where
  pub same_problem : t.problem ≡ problem
  pub same_limit : t.limit ≡ limit

-- the nets are candidates of the target, each once: it can be asked about them
abbrev pub AreReadableAt : TargetValue → List NetId → Type 0
AreReadableAt t nets = AtTarget t.problem.implementation t.number (λ before target behind. AreReadable t.problem before (named_in t nets))

-- the stage has the usual order of turns, and the engine is turned to its target
pub record IsTurnedTo (engine : EngineValue) (stage : Stage) : Type 0 where
  pub stage_is : IsStage stage
  pub order : AtScene stage (AreTurnsBut [])
  pub at : IsEngineAt stage engine

-- what the engine and the stage stand for
abbrev pub target_value : EngineValue → Stage → TargetValue
target_value engine stage = record {
  problem = stage.problem.now;
  limit = engine.limit;
  number = stage.number;
  patches = stage.patches;
  paid = take stage.paid stage.columns.items;
}
