-- One target of a problem with what its function may read, and what is said of inputs there.
use Rattle.std.specs.Prelude.{◌≡◌, ℕ, ◌≤◌, Bool, true, false, not, Some, List, [], ◌∷◌, ◌++◌, length, map, take, drop, All, Contains}
use Rattle.eco_meaning.specs.Circuit.{Circuit, Values, names, AreTargets}
use Rattle.eco_meaning.specs.Patch.{Fits, splice_of}
use Rattle.eco_meaning.specs.Cost.{Weights, IsCandidate, IsUnpaid, AreTurns}
use Rattle.eco_meaning.specs.Choice.{IsReached, IsForced, IsKept, IsConflict, AreValues}
use Rattle.eco_netlist.specs.Netlists.{AreNets, names_at}
use Rattle.eco_laws.specs.Reached.{IsPatchOf}
use Rattle.eco_laws.specs.Asked.{IsSeparated, IsFixed, IsUnfixed}
use Rattle.eco_query.specs.Problem.{ProblemValue, HasTargetNumber}
use Rattle.eco_pose.specs.Questions.{AtTarget, AreDistinct}
use Rattle.eco_desk.specs.Engines.{EngineValue}
use Rattle.eco_base.specs.Walks.{put_last}
use Rattle.eco_base.specs.declared.stage.Stage.{Stage}

-- a target with those before and behind it, the patches of those before it, and the paid signals and the turns of the others
pub record Scene : Type 0 where
  pub problem : ProblemValue
  pub patches : Circuit
  pub before : List (List ℕ)
  pub target : List ℕ
  pub behind : List (List ℕ)
  pub paid : List (List ℕ)
  pub turns : List (List ℕ)

-- all signals that the target's function may read, the paid ones first
abbrev pub columns_of : Scene → List (List ℕ)
columns_of s = s.paid ++ s.turns

-- the candidates that aren't paid, each once, in some order
pub record AreInSomeOrder (f : Circuit) (w : Weights) (input_weight : ℕ) (earlier paid turns : List (List ℕ)) : Type 0 where
  pub sound : All (IsUnpaid f w input_weight earlier paid) turns
  pub complete : (name : List ℕ) → IsUnpaid f w input_weight earlier paid name → Contains turns name
  pub distinct : AreDistinct turns

-- the patches drive the targets before this one and keep f rectifiable, and the signals are its candidates, each once
pub record IsScene (s : Scene) : Type 0 where
  pub targets : AreTargets s.problem.implementation (s.before ++ s.target ∷ s.behind)
  pub outputs : s.patches.outputs ≡ s.before
  pub fits : Fits s.problem.implementation s.patches (s.target ∷ s.behind)
  pub patch : IsPatchOf s.problem.implementation s.patches s.before
  pub kept : IsKept s.problem.implementation s.problem.goal s.patches s.before
  pub candidates : All (IsCandidate s.problem.implementation s.problem.weights s.problem.input_weight s.before) (columns_of s)
  pub distinct : AreDistinct (columns_of s)
  pub are_turns : AreInSomeOrder s.problem.implementation s.problem.weights s.problem.input_weight s.before s.paid s.turns
  pub first : s.before ≡ [] → s.patches.gates ≡ []

-- the turns are in the usual order, but those of these signals behind all others
pub record AreTurnsBut (last : List (List ℕ)) (s : Scene) : Type 0 where
  pub usual : List (List ℕ)
  pub are_turns : AreTurns s.problem.implementation s.problem.weights s.problem.input_weight s.before s.paid usual
  pub put : s.turns ≡ put_last last usual

-- the scene of a stage, where these are the targets
abbrev pub scene_of : Stage → List (List ℕ) → List ℕ → List (List ℕ) → Scene
scene_of stage before target behind = record {
  problem = stage.problem.now;
  patches = stage.patches;
  before = before;
  target = target;
  behind = behind;
  paid = names_at (names stage.problem.now.implementation) (take stage.paid stage.columns.items);
  turns = names_at (names stage.problem.now.implementation) (drop stage.paid stage.columns.items);
}

-- this holds of the scene of the stage
abbrev pub AtScene : Stage → (Scene → Type 0) → Type 0
AtScene stage P = AtTarget stage.problem.now.implementation stage.number (λ before target behind. P (scene_of stage before target behind))

-- the stage has a scene
pub record IsStage (stage : Stage) : Type 0 where
  pub number : HasTargetNumber stage.problem.now.implementation stage.number
  pub nets : AreNets (names stage.problem.now.implementation) stage.columns.items
  pub paid : stage.paid ≤ length stage.columns.items
  pub scene : AtScene stage IsScene
  pub later : AtScene stage (λ s. length s.behind ≡ stage.later)

-- the implementation with the patches in it
abbrev pub splice_at : Stage → Circuit
splice_at stage = splice_of stage.problem.now.implementation stage.patches

-- the engine is one of the stage's problem, turned to its target and the patches
pub record IsEngineAt (stage : Stage) (engine : EngineValue) : Type 0 where
  pub same_problem : engine.problem ≡ stage.problem.now
  pub turned : engine.turned ≡ Some (record { number = stage.number; patches = stage.patches })

-- the bits are the values of these signals in a map that the patches leave at the input x
abbrev pub IsReadAt : Scene → List (List ℕ) → List Bool → List Bool → Type 0
IsReadAt s signals x bits =
    (v : Values) × IsReached s.problem.implementation s.patches s.before x v × (map v signals ≡ bits)

-- the input x forces the target to the bit
abbrev pub IsForcedHere : Scene → List Bool → Bool → Type 0
IsForcedHere s x bit = IsForced s.problem.implementation s.problem.goal s.patches s.before s.target x bit

-- the bits are the values of these signals at the input x
abbrev pub AreValuesHere : Scene → List (List ℕ) → List Bool → List Bool → Type 0
AreValuesHere s signals x bits = AreValues s.problem.implementation s.patches s.before signals x bits

-- the inputs force the target to 1 and to 0
pub record AreForcing (s : Scene) (first second : List (List Bool)) : Type 0 where
  pub ones : All (λ x. IsForcedHere s x true) first
  pub zeros : All (λ x. IsForcedHere s x false) second

-- the inputs x and y show that the signals don't suffice
abbrev pub IsConflictHere : Scene → (List ℕ → Type 0) → List Bool → List Bool → Type 0
IsConflictHere s Signals x y = IsConflict s.problem.implementation s.problem.goal s.patches s.before s.target Signals x y

-- the inputs x and y do so as far as the rests tell
abbrev pub IsSeparatedHere : Scene → List (List Bool) → List (List ℕ) → List Bool → List Bool → Type 0
IsSeparatedHere s rests base x y =
    IsSeparated s.problem.implementation s.problem.goal s.patches s.before s.target s.behind rests base x y

-- values of all targets that begin with the fixed ones and are right at the input x
abbrev pub IsFixedHere : Scene → List Bool → List Bool → List Bool → Type 0
IsFixedHere s fixed x bits = IsFixed s.problem.implementation s.problem.goal (s.before ++ s.target ∷ s.behind) fixed x bits

-- there are none
abbrev pub IsUnfixedHere : Scene → List Bool → List Bool → Type 0
IsUnfixedHere s fixed x = IsUnfixed s.problem.implementation s.problem.goal (s.before ++ s.target ∷ s.behind) fixed x

-- no values of the targets behind help at the input x where the target has the other bit
pub record IsUnhelped (s : Scene) (x : List Bool) (bit : Bool) : Type 0 where
  pub values : List Bool
  pub are : AreValuesHere s s.before x values
  pub unfixed : IsUnfixedHere s (values ++ not bit ∷ []) x

-- this rest, the values of the targets behind, does
pub record IsHelpedBy (s : Scene) (x : List Bool) (bit : Bool) (rest : List Bool) : Type 0 where
  pub values : List Bool
  pub are : AreValuesHere s s.before x values
  pub bits : List Bool
  pub fixed : IsFixedHere s (values ++ not bit ∷ []) x bits
  pub is : fixed.rest ≡ rest
