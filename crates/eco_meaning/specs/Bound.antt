-- What a target's function costs at least: pairs of inputs that every base has to tell apart, each with an amount that is paid
-- for that, such that no signal carries more than it weighs.
use Rattle.std.specs.Prelude.{◌≡◌, ◌≢◌, ◌⊎◌, ℕ, ◌+◌, ◌≤◌, Bool, true, false, List, [], ◌∷◌, ◌++◌, Some, All, Contains}
use Rattle.eco_meaning.specs.Circuit.{Circuit, Values, AreTargets}
use Rattle.eco_meaning.specs.Meaning.{Goal}
use Rattle.eco_meaning.specs.Cost.{Weights, weight_of, IsCandidate}
use Rattle.eco_meaning.specs.Choice.{IsReached, IsForced, Suffices}

-- two inputs, the first of which forces the target to 1 and the second to 0, and what telling them apart costs at least
pub record Part : Type 0 where
  pub amount : ℕ
  pub force1 : List Bool
  pub force0 : List Bool

-- what a base costs at least, and the parts that it is the sum of
pub record Bound : Type 0 where
  pub total : ℕ
  pub parts : List Part

-- the sum of the parts' amounts
abbrev pub amount_of : List Part → ℕ
amount_of [] = 0
amount_of (part ∷ parts) = part.amount + amount_of parts

-- the signal has another value at the first input of the part than at the second, whatever the targets have
abbrev pub TellsApart : Circuit → Circuit → List ℕ → Part → Type 0
TellsApart f p name part =
    (v u : Values) → IsReached f p [] part.force1 v → IsReached f p [] part.force0 u → v name ≢ u name

-- the signal has the same value at both
abbrev pub IsAlikeAt : Circuit → Circuit → List ℕ → Part → Type 0
IsAlikeAt f p name part =
    (v u : Values) → IsReached f p [] part.force1 v → IsReached f p [] part.force0 u → v name ≡ u name

-- the amounts of the parts that the signal tells apart sum up to this load
abbrev pub IsLoad : Circuit → Circuit → List ℕ → List Part → ℕ → Type 0
IsLoad f p name [] load = load ≡ 0
IsLoad f p name (part ∷ parts) load =
    (rest : ℕ) × IsLoad f p name parts rest
    × ((TellsApart f p name part × (load ≡ part.amount + rest)) ⊎ (IsAlikeAt f p name part × (load ≡ rest)))

-- the signal's load is at most its weight
pub record IsCarried (f : Circuit) (w : Weights) (input_weight : ℕ) (p : Circuit) (parts : List Part) (name : List ℕ) : Type 0 where
  pub weight : ℕ
  pub weighs : weight_of f w input_weight name ≡ Some weight
  pub load : ℕ
  pub sum : IsLoad f p name parts load
  pub within : load ≤ weight

-- the first input of the part forces the target to 1, the second to 0
pub record IsForcedPart (f : Circuit) (goal : Goal) (p : Circuit) (target : List ℕ) (part : Part) : Type 0 where
  pub one : IsForced f goal p [] target part.force1 true
  pub zero : IsForced f goal p [] target part.force0 false

-- the parts force the single target, no candidate carries more than it weighs, and the total is the sum
pub record IsBoundOf (f : Circuit) (goal : Goal) (w : Weights) (input_weight : ℕ) (p : Circuit) (target : List ℕ) (bound : Bound) : Type 0 where
  pub single : AreTargets f (target ∷ [])
  pub forced : All (IsForcedPart f goal p target) bound.parts
  pub carried : (name : List ℕ) → IsCandidate f w input_weight [] name → IsCarried f w input_weight p bound.parts name
  pub total : bound.total ≡ amount_of bound.parts

-- so it is of f's target
abbrev pub IsBound : Circuit → Goal → Weights → ℕ → Circuit → Bound → Type 0
IsBound f goal w input_weight p bound = (target : List ℕ) × IsBoundOf f goal w input_weight p target bound

-- the candidate's load is its weight: it can carry no more
pub record IsUsedUp (f : Circuit) (w : Weights) (input_weight : ℕ) (p : Circuit) (parts : List Part) (name : List ℕ) : Type 0 where
  pub candidate : IsCandidate f w input_weight [] name
  pub weight : ℕ
  pub weighs : weight_of f w input_weight name ≡ Some weight
  pub load : IsLoad f p name parts weight

-- these signals weigh so much together
abbrev pub Weigh : Circuit → Weights → ℕ → List (List ℕ) → ℕ → Type 0
Weigh f w input_weight [] sum = sum ≡ 0
Weigh f w input_weight (name ∷ names) sum =
    (weight : ℕ) × (rest : ℕ) × (weight_of f w input_weight name ≡ Some weight) × Weigh f w input_weight names rest
    × (sum ≡ weight + rest)

-- candidates that suffice for the target, beside the signals that earlier targets paid for, never weigh less than this
abbrev pub CostAtLeast : Circuit → Goal → Weights → ℕ → Circuit → List (List ℕ) → List ℕ → List (List ℕ) → ℕ → Type 0
CostAtLeast f goal w input_weight p earlier target paid least =
    (signals : List (List ℕ)) (sum : ℕ) → All (IsCandidate f w input_weight earlier) signals →
    Suffices f goal p earlier target (Contains (paid ++ signals)) → Weigh f w input_weight signals sum → least ≤ sum
