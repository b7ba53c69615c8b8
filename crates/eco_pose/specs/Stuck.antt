-- When a question was answered, and when it was given up.
use Rattle.std.specs.Prelude.{◌≡◌, ℕ, ◌≤◌, length}
use Rattle.eco_meaning.specs.Circuit.{Circuit}
use Rattle.eco_trace.specs.Resolution.{IsLegal}
use Rattle.eco_trace.specs.Verdicts.{IsModel, IsRefutation, IsSpent}
use Rattle.eco_query.specs.Problem.{ProblemValue}
use Rattle.eco_pose.specs.declared.unfinished.Stuck.{Stuck}
use Rattle.eco_pose.specs.declared.unfinished.Unfinished.{Unfinished}
use Rattle.eco_pose.specs.declared.unfinished.Unfinished.TheVariants.{GivenUp, OutOfMemory}
use Rattle.eco_pose.specs.declared.asking.Abandoned.{Abandoned}
use Rattle.eco_pose.specs.declared.asking.Asked.{Asked}
use Rattle.eco_pose.specs.declared.asking.Asked.TheVariants.{Never, Found}
use Rattle.eco_pose.specs.declared.question.Question.{Question}
use Rattle.eco_pose.specs.Posing.{PosedValue}
use Rattle.eco_pose.specs.Questions.{IsAskable, IsOfProblem}
use Rattle.eco_pose.specs.Answers.{Asks}
use Rattle.eco_pose.specs.Shapes.{HasShape, HasReaders, HasFewVariables}

-- The search gave up on clauses that ask a question which can be posed: they have its shape, its readers and few variables, and
-- the proof from them is legal, has just as many learnt clauses as the limit allows, each of which was news, and none is empty.
pub record IsGivenUp (problem : ProblemValue) (limit : ℕ) (stuck : Stuck) : Type 0 where
  pub askable : IsAskable problem.implementation stuck.question
  pub asks : Asks problem.implementation problem.goal stuck.question stuck.posed
  pub shape : HasShape stuck.question stuck.posed
  pub reads : HasReaders problem.implementation stuck.question stuck.posed
  pub few : HasFewVariables problem.implementation problem.goal stuck.question stuck.posed
  pub legal : IsLegal stuck.trace
  pub spent : IsSpent stuck.posed.clauses limit stuck.trace

-- no netlists are compared
abbrev pub NoneCompared : Circuit → Circuit → Type 0
NoneCompared left right = ⊥

-- and the question is one of the problem, where the netlists that are compared in it are these
pub record IsStuck (problem : ProblemValue) (AreCompared : Circuit → Circuit → Type 0) (limit : ℕ) (stuck : Stuck) : Type 0 where
  pub of_problem : IsOfProblem problem AreCompared stuck.question
  pub given_up : IsGivenUp problem limit stuck

-- there is no answer because a question of the problem was given up, or for want of memory
abbrev pub IsUnfinished : ProblemValue → (Circuit → Circuit → Type 0) → ℕ → Unfinished → Type 0
IsUnfinished problem AreCompared limit (GivenUp stuck) = IsStuck problem AreCompared limit stuck.value
IsUnfinished problem AreCompared limit OutOfMemory = Unit {0}

-- there is none because this question was given up, or for want of memory
abbrev pub IsLeft : ProblemValue → ℕ → Question → Unfinished → Type 0
IsLeft problem limit question (GivenUp stuck) = (stuck.value.question ≡ question) × IsGivenUp problem limit stuck.value
IsLeft problem limit question OutOfMemory = Unit {0}

-- the question was given up with these clauses and this proof, or memory ran out
abbrev pub IsLeftAs : Abandoned → Question → Unfinished → Type 0
IsLeftAs left question (GivenUp stuck) =
    (stuck.value.question ≡ question) × (stuck.value.posed ≡ left.posed) × (stuck.value.trace ≡ left.trace)
IsLeftAs left question OutOfMemory = Unit {0}

-- the posed clauses ask the question, have its shape, its readers, and few variables
pub record IsPosed (problem : ProblemValue) (question : Question) (posed : PosedValue) : Type 0 where
  pub asks : Asks problem.implementation problem.goal question posed
  pub shape : HasShape question posed
  pub reads : HasReaders problem.implementation question posed
  pub few : HasFewVariables problem.implementation problem.goal question posed

-- what a question is answered: there is no answer, and a proof from its clauses ends in the empty clause; or there is one, and
-- this is a model of its clauses
abbrev pub IsAnswered : ProblemValue → Question → Asked → Type 0
IsAnswered problem question (Never posed trace) = IsPosed problem question posed × IsRefutation posed.clauses trace
IsAnswered problem question (Found posed model) = IsPosed problem question posed × IsModel posed.clauses model

-- where the answer is a model, this has a value for each variable
abbrev pub CanBeRead : Asked → Type 0
CanBeRead (Never posed trace) = Unit {0}
CanBeRead (Found posed model) = posed.clauses.vars ≤ length model
