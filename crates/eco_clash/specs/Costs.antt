-- What each patch costs at least: a patch that does what is asked reads, for each tuple of inputs that clashes, a signal that
-- isn't steady over it.
use Rattle.std.specs.Prelude.{◌≡◌, ℕ, ◌≤◌, Bool, List, [], ◌∷◌, ◌++◌, Some, slice_get, All, Contains}
use Rattle.eco_meaning.specs.Circuit.{Circuit, AreTargets}
use Rattle.eco_meaning.specs.Meaning.{Goal, IsEquivalent}
use Rattle.eco_meaning.specs.Patch.{Fits, splice_of}
use Rattle.eco_meaning.specs.Cost.{Weights, weight_of, IsCandidate, AreTurns}
use Rattle.eco_meaning.specs.Bound.{Weigh}
use Rattle.eco_meaning.specs.Report.{PatchReport, IsPatched, Meets}
use Rattle.eco_laws.specs.Sound.{IsSound}
use Rattle.eco_laws.specs.Kept.{CaresForInputs}
use Rattle.eco_floor.specs.Sets.{IsFloor}
use Rattle.eco_clash.specs.Clashes.{IsClash, IsSteady}

-- each patch that makes f do what is asked, and whose signals have weights and lie behind no target but these, costs so much at
-- least
abbrev pub PatchesCostAtLeast : Circuit → Goal → Weights → ℕ → List (List ℕ) → ℕ → Type 0
PatchesCostAtLeast f goal w input_weight earlier least =
    (p out : Circuit) (sum : ℕ) → IsSound p → IsPatched f goal p out → All (IsCandidate f w input_weight earlier) p.inputs →
    Weigh f w input_weight p.inputs sum → least ≤ sum

-- some tuple of inputs clashes, and the signals that the row doesn't list, by their places, are steady over it
pub record IsClashRowAt (f : Circuit) (goal : Goal) (signals targets : List (List ℕ)) (row : List ℕ) : Type 0 where
  pub tuple : List (List Bool)
  pub clash : IsClash f goal targets tuple
  pub others : (k : ℕ) (name : List ℕ) → slice_get signals k ≡ Some name → (Contains row k → ⊥) → IsSteady f targets tuple name

-- so it is with f's targets
abbrev pub IsClashRow : Circuit → Goal → List (List ℕ) → List ℕ → Type 0
IsClashRow f goal signals row =
    (targets : List (List ℕ)) → AreTargets f targets → IsClashRowAt f goal signals targets row

-- these are the signals' weights, in order
abbrev pub AreWeights : Circuit → Weights → ℕ → List (List ℕ) → List ℕ → Type 0
AreWeights f w input_weight signals weights =
    (k weight : ℕ) (name : List ℕ) → slice_get signals k ≡ Some name → weight_of f w input_weight name ≡ Some weight →
    slice_get weights k ≡ Some weight

-- where a tuple clashes, a patch that does what is asked reads a signal that isn't steady over it
abbrev pub PatchesTellClashes : Type 0
PatchesTellClashes =
    (f : Circuit) (goal : Goal) (p : Circuit) (tuple : List (List Bool)) → IsSound f → IsSound p → Fits f p [] → CaresForInputs f goal →
    IsEquivalent (splice_of f p) goal → IsClash f goal p.outputs tuple → All (IsSteady f p.outputs tuple) p.inputs → ⊥

-- so it costs as much as any set of signals that has one of each row
abbrev pub RowsBoundPatches : Type 0
RowsBoundPatches =
    (f : Circuit) (goal : Goal) (w : Weights) (input_weight : ℕ) (earlier signals : List (List ℕ)) (weights : List ℕ) (rows : List (List ℕ)) (best : ℕ) →
    IsSound f → CaresForInputs f goal → AreTurns f w input_weight earlier [] signals → AreWeights f w input_weight signals weights →
    All (IsClashRow f goal signals) rows → IsFloor rows weights best → PatchesCostAtLeast f goal w input_weight earlier best

-- where the signals lie behind no target but those before the last one, no answer to the problem costs less
abbrev pub AnswersCostAtLeast : Type 0
AnswersCostAtLeast =
    (f : Circuit) (goal : Goal) (w : Weights) (input_weight : ℕ) (earlier : List (List ℕ)) (last : List ℕ) (least : ℕ) →
    AreTargets f (earlier ++ last ∷ []) → PatchesCostAtLeast f goal w input_weight earlier least →
    (p out : Circuit) (r : PatchReport) → IsSound p → Meets f goal w input_weight p out r → least ≤ r.cost
