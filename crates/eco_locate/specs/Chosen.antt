-- Whether nets that are cut together are a choice, and which of them it needs.
use Rattle.std.specs.Prelude.{◌≡◌, ℕ, Some, List, [], ◌∷◌, length}
use Rattle.std.specs.List.{remove, slice_get}
use Rattle.eco_meaning.specs.Circuit.{Circuit}
use Rattle.eco_meaning.specs.Meaning.{Goal, IsWrong}
use Rattle.eco_choices.specs.Choices.{IsWrongBut, IsChoice}
use Rattle.eco_query.specs.Problem.{ProblemValue}
use Rattle.eco_pose.specs.declared.question.Question.TheVariants as questions
use Rattle.eco_pose.specs.declared.unfinished.Stuck.{Stuck}
use Rattle.eco_pose.specs.Stuck.{IsGivenUp}
use Rattle.eco_locate.specs.declared.choosing.Choice.{Choice}
use Rattle.eco_locate.specs.declared.choosing.Choice.TheVariants.{Suffices, Wrong, GivenUp}
use Rattle.eco_locate.specs.declared.choosing.Need.{Need}
use Rattle.eco_locate.specs.declared.choosing.Need.TheVariants.{Needed, Needless, Unknown}
use Rattle.eco_locate.specs.Questions.{IsGivenUpOn}

-- the question whether the netlists are equal was given up within the limit
pub record IsComparedLess (f : Circuit) (goal : Goal) (limit : ℕ) (stuck : Stuck) : Type 0 where
  pub question : stuck.question ≡ questions.Equal f goal.spec goal.care
  pub given_up : (problem : ProblemValue) → IsGivenUp problem limit stuck

-- the question whether cutting these nets suffices was given up within the limit; with no nets it is whether the netlists are equal
abbrev pub IsUnknown : Circuit → Goal → ℕ → List (List ℕ) → Stuck → Type 0
IsUnknown f goal limit [] stuck = IsComparedLess f goal limit stuck
IsUnknown f goal limit (net ∷ nets) stuck = IsGivenUpOn f goal limit (net ∷ nets) stuck

-- what is told of a net, where these are the others: an input is wrong whatever values they have; or they suffice; or neither is known
abbrev pub TellsNeed : Circuit → Goal → ℕ → List (List ℕ) → Need → Type 0
TellsNeed f goal limit others (Needed input) = IsWrongBut f goal others input × IsWrong f goal input
TellsNeed f goal limit others Needless = IsChoice f goal others
TellsNeed f goal limit others (Unknown stuck) = IsUnknown f goal limit others stuck

-- it is told of each of the first nets, so many of them, in order: the others are all nets but this one
pub record AreNeeds (f : Circuit) (goal : Goal) (limit : ℕ) (nets : List (List ℕ)) (count : ℕ) (needs : List Need) : Type 0 where
  pub as_many : length needs ≡ count
  pub each : (k : ℕ) (need : Need) → slice_get needs k ≡ Some need → TellsNeed f goal limit (remove nets k) need

-- what is told of nets that are cut together: they suffice, and this is told of each of them; or an input is wrong whatever values
-- they have; or the question was given up
abbrev pub TellsChoice : Circuit → Goal → ℕ → List (List ℕ) → Choice → Type 0
TellsChoice f goal limit nets (Suffices needs) = IsChoice f goal nets × AreNeeds f goal limit nets (length nets) needs.items
TellsChoice f goal limit nets (Wrong input) = IsWrongBut f goal nets input × IsWrong f goal input
TellsChoice f goal limit nets (GivenUp stuck) = IsGivenUpOn f goal limit nets stuck
