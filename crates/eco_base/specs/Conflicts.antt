-- What asking whether signals suffice answers.
use Rattle.std.specs.Prelude.{ℕ, Bool, Option, None, Some, List, Contains}
use Rattle.eco_meaning.specs.Circuit.{Circuit}
use Rattle.eco_meaning.specs.Meaning.{Goal}
use Rattle.eco_meaning.specs.Choice.{IsConflict, Suffices}
use Rattle.eco_gates.specs.declared.gate.NetId.{NetId}
use Rattle.eco_query.specs.Problem.{ProblemValue}
use Rattle.eco_pose.specs.Questions.{AtTarget}
use Rattle.eco_base.specs.Asking.{AreMoreRests, names_here}
use Rattle.eco_base.specs.declared.stage.Stage.{Stage}
use Rattle.eco_base.specs.declared.separating.Pair.{Pair}
use Rattle.eco_base.specs.declared.conflicting.Found.{Found}
use Rattle.eco_base.specs.declared.conflicting.Found.TheVariants.{Settled, Listed}

-- the signals suffice, or these two inputs show that they don't
abbrev pub IsAnyConflict : Circuit → Goal → Circuit → List (List ℕ) → List ℕ → (List ℕ → Type 0) → Option Pair → Type 0
IsAnyConflict f goal p earlier target Signals None = Suffices f goal p earlier target Signals
IsAnyConflict f goal p earlier target Signals (Some pair) = IsConflict f goal p earlier target Signals pair.one pair.zero

-- so it is of the target of this number, where these patches drive the targets before it
abbrev pub IsConflictFound : ProblemValue → ℕ → Circuit → List (List ℕ) → Option Pair → Type 0
IsConflictFound problem i patches base found =
    AtTarget problem.implementation i (λ before target behind. IsAnyConflict problem.implementation problem.goal patches before target (Contains base) found)

-- that is known, or there are more rests
abbrev pub IsFound : Stage → List NetId → List (List Bool) → List (List Bool) → Found → Type 0
IsFound stage base old new (Settled found) = IsConflictFound stage.problem.now stage.number stage.patches (names_here stage base) found
IsFound stage base old new Listed = AreMoreRests stage old new
