-- The stage that is made for a target.
use Rattle.std.specs.Prelude.{◌≡◌, ℕ, List, take}
use Rattle.std.specs.Global.{Vec}
use Rattle.eco_meaning.specs.Circuit.{Circuit}
use Rattle.eco_gates.specs.declared.gate.NetId.{NetId}
use Rattle.eco_query.specs.Problem.{ProblemValue}
use Rattle.eco_base.specs.Scenes.{AtScene, AreTurnsBut, IsStage}
use Rattle.eco_base.specs.Asking.{names_here}
use Rattle.eco_base.specs.declared.stage.Stage.{Stage}

-- the stage is one of this target of the problem, with these patches and paid signals, and these have their turns last
pub record IsStageFor (problem : ProblemValue) (number : ℕ) (patches : Circuit) (paid last : List NetId) (stage : Stage) : Type 0 where
  pub stage_is : IsStage stage
  pub of_problem : stage.problem.now ≡ problem
  pub of_number : stage.number ≡ number
  pub of_patches : stage.patches ≡ patches
  pub of_paid : take stage.paid stage.columns.items ≡ paid
  pub order : AtScene stage (AreTurnsBut (names_here stage last))

-- the stage with these columns in place of its own
abbrev pub with_columns : Stage → Vec NetId → Stage
with_columns stage columns = record stage { columns = columns }
