-- What is meant by: target after target can get the interpolant that its base allows.
use Rattle.std.specs.Prelude.{◌≡◌, ◌++◌, ◌∷◌, [], ℕ, Bool, List, Some, All, Contains, length, slice_get, take}
use Rattle.eco_meaning.specs.Circuit.{Circuit, NamedGate, Reads, AreTargets, names}
use Rattle.eco_meaning.specs.Meaning.{Goal}
use Rattle.eco_meaning.specs.Choice.{IsKept, IsNeeded}
use Rattle.eco_meaning.specs.Cost.{Weights, IsCandidate}
use Rattle.eco_laws.specs.Kept.{HasAllForcedBits}
use Rattle.eco_laws.specs.Parts.{CarriesOver}
use Rattle.eco_gates.specs.declared.gate.NetId.{NetId}
use Rattle.eco_netlist.specs.Netlists.{IsChecked, names_at}
use Rattle.eco_pose.specs.Answers.{AsksSeparate}
use Rattle.eco_pose.specs.Posing.{PosedValue, sides_of}
use Rattle.eco_functions.specs.Functions.{FunctionsValue, AreFunctions, HasOneMore, LastIsInterpolant}
use Rattle.eco_functions.specs.Standing.{IsPatchWith}

-- the targets before this one have their functions in the patch p; in q they and this one have
pub record IsNextPatch (f : Circuit) (before : List (List ℕ)) (target : List ℕ) (behind : List (List ℕ)) (old : FunctionsValue) (added : List NetId) (new : FunctionsValue) (p q : Circuit) : Type 0 where
  pub implementation : IsChecked f
  pub targets : AreTargets f (before ++ target ∷ behind)
  pub old_functions : AreFunctions old
  pub new_functions : AreFunctions new
  pub count : length old.roots ≡ length before
  pub first : IsPatchWith f old p
  pub next : IsPatchWith f new q
  pub more : HasOneMore old added new

-- the target's function is an interpolant of clauses that ask for two inputs at which its base has equal values
pub record IsFromAnswer (f : Circuit) (goal : Goal) (before : List (List ℕ)) (target : List ℕ) (behind : List (List ℕ)) (new : FunctionsValue) (p : Circuit) : Type 0 where
  pub rests : List (List Bool)
  pub posed : PosedValue
  pub asks : AsksSeparate f goal p before target behind rests (names_at (names f) new.base) posed
  pub between : LastIsInterpolant (sides_of posed) posed.shared new

-- a function from an interpolant keeps f rectifiable
abbrev pub InterpolantsKeep : Type 0
InterpolantsKeep =
    (f : Circuit) (goal : Goal) (w : Weights) (input_weight : ℕ) (before : List (List ℕ)) (target : List ℕ) (behind : List (List ℕ))
    (old : FunctionsValue) (more : List NetId) (new : FunctionsValue) (p q : Circuit) →
    IsNextPatch f before target behind old more new p q → IsFromAnswer f goal before target behind new p →
    All (IsCandidate f w input_weight before) (names_at (names f) new.base) →
    IsKept f goal p before → IsKept f goal q (before ++ target ∷ [])

-- what is said of earlier targets with the patch p stands with q, and what is said with q stands with p
abbrev pub EarlierStand : Type 0
EarlierStand =
    (f : Circuit) (before : List (List ℕ)) (target : List ℕ) (behind : List (List ℕ))
    (old : FunctionsValue) (more : List NetId) (new : FunctionsValue) (p q : Circuit) →
    IsNextPatch f before target behind old more new p q →
    (first rest : List (List ℕ)) → before ≡ first ++ rest → CarriesOver f p q first × CarriesOver f q p first

-- some gate reads the name
abbrev pub IsRead : Circuit → List ℕ → Type 0
IsRead p name = (gate : NamedGate) × Contains p.gates gate × Reads gate name

-- where the functions have the bits that are forced, a signal is read that a target needs beside the others that it may read
abbrev pub NeededAreRead : Type 0
NeededAreRead =
    (f : Circuit) (goal : Goal) (functions : FunctionsValue) (p : Circuit) →
    IsChecked f → AreFunctions functions → IsPatchWith f functions p → HasAllForcedBits f goal p →
    (before : List (List ℕ)) (target : List ℕ) (behind : List (List ℕ)) → p.outputs ≡ before ++ target ∷ behind →
    (count : ℕ) → slice_get functions.counts (length before) ≡ Some count →
    (name : List ℕ) (x y : List Bool) → Contains (take count (names_at (names f) functions.base)) name →
    IsNeeded f goal p before target (take count (names_at (names f) functions.base)) name x y → IsRead p name
