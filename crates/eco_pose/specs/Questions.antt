-- Which questions can be posed of an implementation and what is asked of it, and which are questions of a problem.
use Rattle.std.specs.Prelude.{◌≡◌, ◌≢◌, ℕ, ◌≤◌, Bool, List, ◌∷◌, ◌++◌, [], length, All, AllPairs}
use Rattle.eco_meaning.specs.Circuit.{Circuit, names, IsSignal, AreTargets}
use Rattle.eco_meaning.specs.Patch.{Fits, IsBehindOnly}
use Rattle.eco_meaning.specs.Cost.{IsCandidate}
use Rattle.eco_meaning.specs.Choice.{IsKept}
use Rattle.eco_netlist.specs.Netlists.{AreNets, names_at}
use Rattle.eco_query.specs.Problem.{ProblemValue, IsClosed, HasTargetNumber}
use Rattle.eco_compile.specs.Goals.{IsGoalOf}
use Rattle.eco_pose.specs.declared.question.Question.{Question}
use Rattle.eco_pose.specs.declared.question.Question.TheVariants.{Rectify, Separate, Fix, Equal}

-- this holds of the target of the number i, counted from 0, with the targets before it and those behind it
abbrev pub AtTarget : Circuit → ℕ → (List (List ℕ) → List ℕ → List (List ℕ) → Type 0) → Type 0
AtTarget f i P =
    (before : List (List ℕ)) (target : List ℕ) (behind : List (List ℕ)) →
    AreTargets f (before ++ target ∷ behind) → length before ≡ i → P before target behind

-- each row has a bit for each of the nets
abbrev pub AreRowsOf : List (List ℕ) → List (List Bool) → Type 0
AreRowsOf nets rows = All (λ row. length row ≡ length nets) rows

-- no two of them are the same
abbrev pub AreDistinct : {X : Type 0} → List X → Type 0
AreDistinct list = AllPairs (λ a b. a ≢ b) list

-- the patches drive the targets before this one, the base has distinct signals of f that lie behind no others, and each rest has
-- a bit for each target behind it
pub record IsSeparable (f patches : Circuit) (base : List (List ℕ)) (rest : List (List Bool)) (before : List (List ℕ)) (target : List ℕ) (behind : List (List ℕ)) : Type 0 where
  pub outputs : patches.outputs ≡ before
  pub fits : Fits f patches (target ∷ behind)
  pub signals : All (IsSignal f) base
  pub apart : All (IsBehindOnly f before) base
  pub distinct : AreDistinct base
  pub rests : AreRowsOf behind rest

-- what a question takes as given
abbrev pub IsAskable : Circuit → Question → Type 0
IsAskable f (Rectify values) = (targets : List (List ℕ)) → AreTargets f targets → AreRowsOf targets values
IsAskable f (Separate i patches base rest) =
    HasTargetNumber f i × AreNets (names f) base × AtTarget f i (IsSeparable f patches (names_at (names f) base) rest)
IsAskable f (Fix input fixed) =
    (length input ≡ length f.inputs) × ((targets : List (List ℕ)) → AreTargets f targets → length fixed ≤ length targets)
IsAskable f (Equal left right care) = IsGoalOf left (record { spec = right; care = care }) × IsClosed left

-- the base are candidates of the target, and with the patches f can still be rectified; before the first target they have no
-- gate
pub record SeparatesProblem (problem : ProblemValue) (patches : Circuit) (base before : List (List ℕ)) : Type 0 where
  pub candidates : All (IsCandidate problem.implementation problem.weights problem.input_weight before) base
  pub kept : IsKept problem.implementation problem.goal patches before
  pub first : before ≡ [] → patches.gates ≡ []

-- the question is one of the problem, where the netlists that are compared in it are these
abbrev pub IsOfProblem : ProblemValue → (Circuit → Circuit → Type 0) → Question → Type 0
IsOfProblem problem AreCompared (Rectify values) = AreDistinct values
IsOfProblem problem AreCompared (Separate i patches base rest) =
    AreDistinct rest × AtTarget problem.implementation i
    (λ before target behind. SeparatesProblem problem patches (names_at (names problem.implementation) base) before)
IsOfProblem problem AreCompared (Fix input fixed) = Unit {0}
IsOfProblem problem AreCompared (Equal left right care) = AreCompared left right × (care ≡ problem.goal.care)
