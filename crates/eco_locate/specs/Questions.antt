-- What is asked of nets, and what the answer tells.
use Rattle.std.specs.Prelude.{ℕ, List}
use Rattle.eco_meaning.specs.Circuit.{Circuit}
use Rattle.eco_meaning.specs.Meaning.{Goal, IsWrong, IsRectifiable}
use Rattle.eco_choices.specs.Choices.{IsWrongBut, IsChoice}
use Rattle.eco_query.specs.Problem.{ProblemValue}
use Rattle.eco_change.specs.CutProblem.{IsCutProblem}
use Rattle.eco_pose.specs.declared.unfinished.Stuck.{Stuck}
use Rattle.eco_pose.specs.Stuck.{IsStuck, NoneCompared}
use Rattle.eco_locate.specs.declared.judging.Verdict.{Verdict}
use Rattle.eco_locate.specs.declared.judging.Verdict.TheVariants.{Choice, Wrong, GivenUp}

-- this question whether the nets are a choice was given up within the limit
pub record IsGivenUpOn (f : Circuit) (goal : Goal) (limit : ℕ) (nets : List (List ℕ)) (stuck : Stuck) : Type 0 where
  pub problem : ProblemValue
  pub posed : IsCutProblem f goal nets problem
  pub left : IsStuck problem NoneCompared limit stuck

-- what is told of the nets
abbrev pub TellsNets : Circuit → Goal → ℕ → List (List ℕ) → Verdict → Type 0
TellsNets f goal limit nets Choice = IsChoice f goal nets
TellsNets f goal limit nets (Wrong input) = IsWrongBut f goal nets input × IsWrong f goal input
TellsNets f goal limit nets (GivenUp stuck) = IsGivenUpOn f goal limit nets stuck.value

-- what is told of the problem
abbrev pub TellsProblem : ProblemValue → ℕ → Verdict → Type 0
TellsProblem problem limit Choice = IsRectifiable problem.implementation problem.goal
TellsProblem problem limit (Wrong input) = IsWrong problem.implementation problem.goal input
TellsProblem problem limit (GivenUp stuck) = IsStuck problem NoneCompared limit stuck.value
