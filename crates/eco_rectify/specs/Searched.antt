-- What the search tells of listed rows, and of an input.
use Rattle.std.specs.Prelude.{◌≡◌, ℕ, Bool, Option, None, Some, List, [], length, Contains}
use Rattle.eco_meaning.specs.Circuit.{Circuit, AreTargets}
use Rattle.eco_query.specs.Problem.{ProblemValue}
use Rattle.eco_laws.specs.Asked.{IsMissed, IsFixed, IsUnfixed}
use Rattle.eco_pose.specs.Questions.{AreRowsOf, AreDistinct}

-- rows of a bit for each target, of which no two are the same
pub record AreListed (f : Circuit) (rows : List (List Bool)) : Type 0 where
  pub fitting : (targets : List (List ℕ)) → AreTargets f targets → AreRowsOf targets rows
  pub distinct : AreDistinct rows

-- a bit for each target, other than in each of the rows
pub record IsNewRow (f : Circuit) (rows : List (List Bool)) (row : List Bool) : Type 0 where
  pub fitting : (targets : List (List ℕ)) → AreTargets f targets → length row ≡ length targets
  pub unlisted : Contains rows row → ⊥

-- at no input the rows are all wrong; or at this one they are
abbrev pub TellsMissed : ProblemValue → List (List Bool) → Option (List Bool) → Type 0
TellsMissed problem rows None =
    (targets : List (List ℕ)) → AreTargets problem.implementation targets → (x : List Bool) →
    IsMissed problem.implementation problem.goal targets rows x → ⊥
TellsMissed problem rows (Some x) =
    (targets : List (List ℕ)) → AreTargets problem.implementation targets →
    IsMissed problem.implementation problem.goal targets rows x

-- no values of the targets are right at the input x; or these are
abbrev pub TellsHelp : ProblemValue → List Bool → Option (List Bool) → Type 0
TellsHelp problem x None =
    (targets : List (List ℕ)) → AreTargets problem.implementation targets →
    IsUnfixed problem.implementation problem.goal targets [] x
TellsHelp problem x (Some bits) =
    (targets : List (List ℕ)) → AreTargets problem.implementation targets →
    IsFixed problem.implementation problem.goal targets [] x bits
