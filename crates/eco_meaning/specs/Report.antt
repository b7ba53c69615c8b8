-- What is reported of a patch, and when a report, a patch and a patched netlist solve a problem.
use Rattle.std.specs.Prelude.{◌≡◌, ℕ, ◌+◌, Bool, List, [], ◌∷◌, ◌++◌, Option, Some, IfSome, All, length, map, slice_get}
use Rattle.std.specs.List.{flat_map}
use Rattle.eco_meaning.specs.Circuit.{Circuit, AreTargets, IsLoopFree}
use Rattle.eco_meaning.specs.Meaning.{Goal, IsEquivalent}
use Rattle.eco_meaning.specs.Patch.{Fits, ReadsAllInputs, splice_of}
use Rattle.eco_meaning.specs.Cost.{Weights, weight_of, IsCandidate}
use Rattle.eco_meaning.specs.Choice.{IsNeeded, IsGreedyBase}
use Rattle.eco_meaning.specs.Bound.{Bound, IsBound, CostAtLeast}

-- a signal that the patch reads, with its weight and two inputs that show that it is needed: the first forces the
-- target to 1, the second to 0
pub record BaseSignal : Type 0 where
  pub signal : List ℕ
  pub weight : ℕ
  pub force1 : List Bool
  pub force0 : List Bool

-- a target, with the signals that its function adds to those of the earlier targets
pub record TargetGroup : Type 0 where
  pub target : List ℕ
  pub base : List BaseSignal

-- a target, and what the signals that its function adds cost at least
pub record Least : Type 0 where
  pub target : List ℕ
  pub cost : ℕ

-- what is reported of a patch, perhaps with what one costs at least, and what each target's signals do
pub record PatchReport : Type 0 where
  pub cost : ℕ
  pub gates : ℕ
  pub groups : List TargetGroup
  pub bound : Option Bound
  pub least : List Least

-- the targets of these groups, and what their functions read, in order
abbrev pub targets_in : List TargetGroup → List (List ℕ)
targets_in groups = map (λ group. group.target) groups

abbrev pub base_in : List TargetGroup → List BaseSignal
base_in groups = flat_map (λ group. group.base) groups

abbrev pub signals_in : List TargetGroup → List (List ℕ)
signals_in groups = map (λ b. b.signal) (base_in groups)

-- all signals that the report says the patch reads, and all targets, in order
abbrev pub base_of : PatchReport → List BaseSignal
base_of r = base_in r.groups

abbrev pub signals_of : PatchReport → List (List ℕ)
signals_of r = signals_in r.groups

abbrev pub targets_of : PatchReport → List (List ℕ)
targets_of r = targets_in r.groups

-- the sum of the printed weights
abbrev pub cost_of : List BaseSignal → ℕ
cost_of [] = 0
cost_of (b ∷ bs) = b.weight + cost_of bs

-- the patched netlist is f with p in it: nothing else, without a loop, with the specification's outputs on every cared input
pub record IsPatched (f : Circuit) (goal : Goal) (p out : Circuit) : Type 0 where
  pub fits : Fits f p []
  pub spliced : out ≡ splice_of f p
  pub loop_free : IsLoopFree out
  pub equivalent : IsEquivalent out goal

-- each reported signal is a candidate of the target that it is reported for
abbrev pub AreCandidates : Circuit → Weights → ℕ → PatchReport → Type 0
AreCandidates f w input_weight r =
    (before : List TargetGroup) (group : TargetGroup) (behind : List TargetGroup) → r.groups ≡ before ++ group ∷ behind →
    All (IsCandidate f w input_weight (targets_in before)) (signals_in (group ∷ []))

-- the report tells the patch's base and cost as they are
pub record IsReported (f : Circuit) (w : Weights) (input_weight : ℕ) (p : Circuit) (r : PatchReport) : Type 0 where
  pub targets : AreTargets f (targets_of r)
  pub outputs : p.outputs ≡ targets_of r
  pub inputs : p.inputs ≡ signals_of r
  pub ports : p.ports ≡ targets_of r ++ signals_of r
  pub candidates : AreCandidates f w input_weight r
  pub weights : All (λ b. weight_of f w input_weight b.signal ≡ Some b.weight) (base_of r)
  pub cost : r.cost ≡ cost_of (base_of r)
  pub gates : r.gates ≡ length p.gates

-- each reported signal is needed: its two inputs show that its target, with the patch's functions for the targets before
-- it, has no function of the other signals that are reported up to it
abbrev pub AreNeeded : Circuit → Goal → Circuit → PatchReport → Type 0
AreNeeded f goal p r =
    (before : List TargetGroup) (group : TargetGroup) (behind : List TargetGroup) → r.groups ≡ before ++ group ∷ behind →
    All (λ b. IsNeeded f goal p (targets_in before) group.target (signals_in (before ++ group ∷ [])) b.signal b.force1 b.force0)
    group.base

-- each target's signals are the greedy choice, those of the targets before it being paid
abbrev pub AreGreedy : Circuit → Goal → Weights → ℕ → Circuit → PatchReport → Type 0
AreGreedy f goal w input_weight p r =
    (before : List TargetGroup) (group : TargetGroup) (behind : List TargetGroup) → r.groups ≡ before ++ group ∷ behind →
    IsGreedyBase f goal w input_weight p (targets_in before) group.target (signals_in before) (signals_in (group ∷ []))

-- the report, the patch p and the patched netlist solve the problem of f and what is asked of it
pub record Meets (f : Circuit) (goal : Goal) (w : Weights) (input_weight : ℕ) (p out : Circuit) (r : PatchReport) : Type 0 where
  pub patched : IsPatched f goal p out
  pub reported : IsReported f w input_weight p r
  pub needed : AreNeeded f goal p r
  pub bound : IfSome r.bound (IsBound f goal w input_weight p)

-- and it is frugal: the patch reads all of its inputs, which are the greedy choice
pub record IsFrugal (f : Circuit) (goal : Goal) (w : Weights) (input_weight : ℕ) (p : Circuit) (r : PatchReport) : Type 0 where
  pub read : ReadsAllInputs p
  pub greedy : AreGreedy f goal w input_weight p r

-- of each target, in order, it is told what it costs at least: no candidates that suffice for it, beside the signals of the
-- targets before it, cost less
pub record AreLeast (f : Circuit) (goal : Goal) (w : Weights) (input_weight : ℕ) (p : Circuit) (r : PatchReport) : Type 0 where
  pub count : length r.least ≡ length r.groups
  pub told : (before : List TargetGroup) (group : TargetGroup) (behind : List TargetGroup) → r.groups ≡ before ++ group ∷ behind →
      (line : Least) × (slice_get r.least (length before) ≡ Some line) × (line.target ≡ group.target)
      × CostAtLeast f goal w input_weight p (targets_in before) group.target (signals_in before) line.cost
