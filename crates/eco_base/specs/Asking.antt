-- What questions on the way to a base are answered.
use Rattle.std.specs.Prelude.{◌≡◌, ℕ, ◌-◌, ◌^◌, ◌<◌, Bool, Option, None, Some, List, length, All, Contains}
use Rattle.eco_meaning.specs.Circuit.{names, AreTargets}
use Rattle.eco_meaning.specs.Cost.{IsCandidate}
use Rattle.eco_netlist.specs.Netlists.{names_at}
use Rattle.eco_gates.specs.declared.gate.NetId.{NetId}
use Rattle.eco_laws.specs.Asked.{IsFixed, IsUnfixed}
use Rattle.eco_trace.specs.Verdicts.{IsRefutation}
use Rattle.eco_trace.specs.Clauses.{valuation_of, read}
use Rattle.eco_pose.specs.Questions.{AreRowsOf, AreDistinct}
use Rattle.eco_pose.specs.Stuck.{IsPosed}
use Rattle.eco_pose.specs.declared.question.Question.TheVariants.{Separate}
use Rattle.eco_pose.specs.Posing.{PosedValue}
use Rattle.eco_query.specs.Problem.{ProblemValue}
use Rattle.eco_base.specs.Scenes.{Scene, AtScene, IsSeparatedHere, IsConflictHere, IsUnhelped, IsHelpedBy}
use Rattle.eco_base.specs.declared.stage.Stage.{Stage}
use Rattle.eco_base.specs.declared.separating.Refutation.{Refutation}
use Rattle.eco_base.specs.declared.separating.Pair.{Pair}
use Rattle.eco_base.specs.declared.judging.Outcome.{Outcome}
use Rattle.eco_base.specs.declared.judging.Outcome.TheVariants.{Never, Conflict, Further}

-- the signals are candidates of a target with these before it, each once
pub record AreReadable (problem : ProblemValue) (before base : List (List ℕ)) : Type 0 where
  pub candidates : All (IsCandidate problem.implementation problem.weights problem.input_weight before) base
  pub distinct : AreDistinct base

-- they are such of the scene's target
abbrev pub AreReadableHere : Scene → List (List ℕ) → Type 0
AreReadableHere s base = AreReadable s.problem s.before base

-- the rests are distinct, and each has a bit for each target behind
pub record AreRests (s : Scene) (rests : List (List Bool)) : Type 0 where
  pub rows : AreRowsOf s.behind rests
  pub distinct : AreDistinct rests

-- the names of these nets of f
abbrev pub names_here : Stage → List NetId → List (List ℕ)
names_here stage nets = names_at (names stage.problem.now.implementation) nets

-- nothing helps at the input x where the target has the other bit; or a rest does
abbrev pub IsFurther : Stage → List Bool → Bool → Option (List Bool) → Type 0
IsFurther stage x bit None = AtScene stage (λ s. IsUnhelped s x bit)
IsFurther stage x bit (Some rest) = AtScene stage (λ s. IsHelpedBy s x bit rest)

-- no values of the targets go on from the fixed ones and are right at the input x; or some do, and end with this rest
abbrev pub IsRestBehind : Stage → List Bool → List Bool → Option (List Bool) → Type 0
IsRestBehind stage x fixed None =
    (targets : List (List ℕ)) → AreTargets stage.problem.now.implementation targets →
    IsUnfixed stage.problem.now.implementation stage.problem.now.goal targets fixed x
IsRestBehind stage x fixed (Some rest) =
    (targets : List (List ℕ)) → AreTargets stage.problem.now.implementation targets →
    (bits : List Bool) × (found : IsFixed stage.problem.now.implementation stage.problem.now.goal targets fixed x bits) × (found.rest ≡ rest)

-- the clauses pose the question for two inputs that are separated, and the proof is one that there are none
pub record IsRefuted (stage : Stage) (rests : List (List Bool)) (base : List NetId) (refutation : Refutation) : Type 0 where
  pub posed : IsPosed stage.problem.now (Separate stage.number stage.patches base rests) refutation.posed
  pub refuted : IsRefutation refutation.posed.clauses refutation.trace
  pub none : AtScene stage (λ s. (x y : List Bool) → IsSeparatedHere s rests (names_here stage base) x y → ⊥)

-- the two inputs are what the model is read as
pub record IsPairRead (posed : PosedValue) (model : List Bool) (pair : Pair) : Type 0 where
  pub one : pair.one ≡ read (valuation_of model) posed.first
  pub zero : pair.zero ≡ read (valuation_of model) posed.second

-- a rest that isn't listed
pub record IsNewRest (s : Scene) (rests : List (List Bool)) (rest : List Bool) : Type 0 where
  pub len : length rest ≡ length s.behind
  pub absent : Contains rests rest → ⊥

-- they are rests, and fewer are left that aren't listed
pub record AreMoreRests (stage : Stage) (old new : List (List Bool)) : Type 0 where
  pub rests : AtScene stage (λ s. AreRests s new)
  pub less : 2 ^ stage.later - length new < 2 ^ stage.later - length old

-- the two inputs show that the base doesn't suffice, or there is a further rest
abbrev pub IsJudged : Stage → List (List Bool) → List (List ℕ) → Pair → Option (List Bool) → Type 0
IsJudged stage rests base pair None = AtScene stage (λ s. IsConflictHere s (Contains base) pair.one pair.zero)
IsJudged stage rests base pair (Some rest) = AtScene stage (λ s. IsNewRest s rests rest)

-- no two inputs are separated, or these two show that the base doesn't suffice, or there is a further rest
abbrev pub IsOutcome : Stage → List (List Bool) → List NetId → Outcome → Type 0
IsOutcome stage rests base (Never refutation) = IsRefuted stage rests base refutation
IsOutcome stage rests base (Conflict pair) = AtScene stage (λ s. IsConflictHere s (Contains (names_here stage base)) pair.one pair.zero)
IsOutcome stage rests base (Further rest) = AtScene stage (λ s. IsNewRest s rests rest)
