-- What the question whether the netlists are equal tells.
use Rattle.std.specs.Prelude.{Bool, List, Option, Some, None}
use Rattle.eco_meaning.specs.Circuit.{Circuit}
use Rattle.eco_meaning.specs.Meaning.{Goal, IsWrong}
use Rattle.eco_query.specs.Problem.{ProblemValue}
use Rattle.eco_pose.specs.declared.asking.Asked.{Asked}
use Rattle.eco_pose.specs.declared.question.Question.TheVariants as questions
use Rattle.eco_pose.specs.Stuck.{IsAnswered}
use Rattle.eco_change.specs.declared.failing.Failing.{Failing}
use Rattle.eco_change.specs.Failing.{IsFailing}

-- no input of f is wrong
abbrev pub NoneIsWrong : Circuit → Goal → Type 0
NoneIsWrong f goal = (x : List Bool) → IsWrong f goal x → ⊥

-- this input is wrong; or none is
abbrev pub TellsInput : Circuit → Goal → Option (List Bool) → Type 0
TellsInput f goal None = NoneIsWrong f goal
TellsInput f goal (Some input) = IsWrong f goal input

-- this wrong input was found; or none is wrong
abbrev pub TellsFirst : Circuit → Goal → Option Failing → Type 0
TellsFirst f goal None = NoneIsWrong f goal
TellsFirst f goal (Some failing) = IsFailing f goal failing

-- this is told by the answer to the question whether the netlists are equal
abbrev pub IsGivenBy : Asked → Option (List Bool) → Type 0
IsGivenBy answer found =
    (problem : ProblemValue) (f : Circuit) (goal : Goal) →
    IsAnswered problem (questions.Equal f goal.spec goal.care) answer → TellsInput f goal found
