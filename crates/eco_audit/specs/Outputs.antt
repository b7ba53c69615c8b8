-- What is reported of the outputs of a patched netlist.
use Rattle.std.specs.Prelude.{◌≡◌}
use Rattle.eco_meaning.specs.Circuit.{Circuit}
use Rattle.eco_meaning.specs.Meaning.{IsEquivalent, IsWrong}
use Rattle.eco_laws.specs.Kept.{CaresForInputs}
use Rattle.eco_netlist.specs.Netlists.{IsChecked}
use Rattle.eco_query.specs.Problem.{ProblemValue, IsClosed}
use Rattle.eco_pose.specs.declared.asking.Asked.{Asked}
use Rattle.eco_pose.specs.declared.question.Question.TheVariants as questions
use Rattle.eco_pose.specs.Stuck.{IsAnswered}
use Rattle.eco_audit.specs.declared.comparing.Outputs.{Outputs}
use Rattle.eco_audit.specs.declared.comparing.Outputs.TheVariants.{Same, Differ}

-- the patched netlist is compared with the specification
abbrev pub AreCompared : ProblemValue → Circuit → Circuit → Circuit → Type 0
AreCompared problem out left right = (left ≡ out) × (right ≡ problem.goal.spec)

-- they are the specification's on every cared input; or on this cared input they aren't
abbrev pub TellsOutputs : ProblemValue → Circuit → Outputs → Type 0
TellsOutputs problem out Same = IsEquivalent out problem.goal
TellsOutputs problem out (Differ input) = IsWrong out problem.goal input

-- this is reported of the outputs by the answer to the question whether they are the specification's
abbrev pub AreGivenBy : Asked → Outputs → Type 0
AreGivenBy answer outputs =
    (problem : ProblemValue) (out : Circuit) → IsChecked out → IsClosed out → CaresForInputs out problem.goal →
    IsAnswered problem (questions.Equal out problem.goal.spec problem.goal.care) answer → TellsOutputs problem out outputs
