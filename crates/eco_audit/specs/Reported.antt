-- What a report tells of the signals that a patch reads, one after the other, and which of them is the first to be wrong.
use Rattle.std.specs.Prelude.{◌≡◌, ℕ, List, [], ◌∷◌, ◌++◌, Some, All}
use Rattle.eco_meaning.specs.Circuit.{Circuit, Fan}
use Rattle.eco_meaning.specs.Cost.{weight_of, IsCandidate}
use Rattle.eco_meaning.specs.Patch.{IsBehindOnly}
use Rattle.eco_meaning.specs.Choice.{IsNeeded}
use Rattle.eco_meaning.specs.Report.{BaseSignal, TargetGroup, targets_in, signals_in}
use Rattle.eco_query.specs.Problem.{ProblemValue}

-- what may be said of a reported signal: by the groups before its own, its group, and itself
abbrev pub Saying : Type 1
Saying = List TargetGroup → TargetGroup → BaseSignal → Type 0

-- it is said of each signal that the groups tell
abbrev pub IsSaidOfAll : Saying → List TargetGroup → Type 0
IsSaidOfAll Says groups =
    (before : List TargetGroup) (group : TargetGroup) (behind : List TargetGroup) → groups ≡ before ++ group ∷ behind →
    All (Says before group) group.base

-- of these signals the first of which it doesn't hold has this name
pub record IsFirstWrongOf (Holds : BaseSignal → Type 0) (base : List BaseSignal) (name : List ℕ) : Type 0 where
  pub front : List BaseSignal
  pub reported : BaseSignal
  pub back : List BaseSignal
  pub split : base ≡ front ++ reported ∷ back
  pub named : reported.signal ≡ name
  pub wrong : Holds reported → ⊥
  pub first : All Holds front

-- of the signals that the groups tell the first of which it can't be said has this name
pub record IsFirstWrong (Says : Saying) (groups : List TargetGroup) (name : List ℕ) : Type 0 where
  pub before : List TargetGroup
  pub group : TargetGroup
  pub behind : List TargetGroup
  pub split : groups ≡ before ++ group ∷ behind
  pub wrong : IsFirstWrongOf (Says before group) group.base name
  pub first : IsSaidOfAll Says before

-- the signal is a candidate of the target that tells it
abbrev pub IsReportedCandidate : ProblemValue → Saying
IsReportedCandidate problem before group b =
    IsCandidate problem.implementation problem.weights problem.input_weight (targets_in before) b.signal

-- the reported weight is the signal's
abbrev pub IsReportedWeight : ProblemValue → Saying
IsReportedWeight problem before group b =
    weight_of problem.implementation problem.weights problem.input_weight b.signal ≡ Some b.weight

-- each target whose function depends on the signal may read it: it lies behind none but the targets before that one
abbrev pub IsReadInTime : Circuit → Circuit → Saying
IsReadInTime f p before group b =
    (first : List (List ℕ)) (target : List ℕ) (later : List (List ℕ)) → p.outputs ≡ first ++ target ∷ later →
    Fan p b.signal target → IsBehindOnly f first b.signal

-- the two reported inputs show that the signal is needed beside the others that are reported up to its target
abbrev pub IsReportedNeeded : ProblemValue → Circuit → Saying
IsReportedNeeded problem p before group b =
    IsNeeded problem.implementation problem.goal p (targets_in before) group.target (signals_in (before ++ group ∷ []))
    b.signal b.force1 b.force0
