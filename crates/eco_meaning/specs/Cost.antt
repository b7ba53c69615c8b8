-- What signals cost, and in which order they have their turns.
use Rattle.std.specs.Prelude.{◌≡◌, ◌⊎◌, ℕ, ◌<◌, if◌then◌else◌, List, [], ◌∷◌, Option, Some, None, IsSome, AllPairs, Contains, All}
use Rattle.std.specs.Cmp.Lexicographic.{slice_cmp}
use Rattle.std.specs.Ordering.{nat_cmp}
use Rattle.std.specs.Str.{bytes_eq}
use Rattle.std.specs.declared.cmp.Ordering.TheVariants.{Less}
use Rattle.eco_meaning.specs.Names.{has}
use Rattle.eco_meaning.specs.Circuit.{Circuit, IsSignal}
use Rattle.eco_meaning.specs.Patch.{IsBehindOnly}

-- the lines of a weight file: a signal and its weight each
abbrev pub Weights : Type 0
Weights = List (List ℕ × ℕ)

-- the weight on the first line of this name, if there is one
abbrev pub line_weight : Weights → List ℕ → Option ℕ
line_weight [] name = None
line_weight (line ∷ lines) name = if bytes_eq line.0 name then Some line.1 else line_weight lines name

-- the first weight, or the second where there is none
abbrev pub or_else : Option ℕ → Option ℕ → Option ℕ
or_else None second = second
or_else (Some weight) second = Some weight

-- a signal's weight: that of its line; an input without a line has the weight of unlisted inputs, and any other
-- signal without a line has none
abbrev pub weight_of : Circuit → Weights → ℕ → List ℕ → Option ℕ
weight_of f w input_weight name =
    or_else (line_weight w name) (if has f.inputs name then Some input_weight else None)

-- a signal that the function of a target may read: it has a weight and lies in the fan-out of no target but the earlier
-- ones
pub record IsCandidate (f : Circuit) (w : Weights) (input_weight : ℕ) (earlier : List (List ℕ)) (name : List ℕ) : Type 0 where
  pub signal : IsSignal f name
  pub weighted : IsSome (weight_of f w input_weight name)
  pub apart : IsBehindOnly f earlier name

-- the first signal is heavier than the second, or as heavy and its name comes later in the order of bytes
pub record GoesBefore (f : Circuit) (w : Weights) (input_weight : ℕ) (first second : List ℕ) : Type 0 where
  pub heavy : ℕ
  pub light : ℕ
  pub weight_first : weight_of f w input_weight first ≡ Some heavy
  pub weight_second : weight_of f w input_weight second ≡ Some light
  pub order : (light < heavy) ⊎ ((light ≡ heavy) × (slice_cmp nat_cmp second first ≡ Less))

-- a candidate for which no earlier target has paid
pub record IsUnpaid (f : Circuit) (w : Weights) (input_weight : ℕ) (earlier paid : List (List ℕ)) (name : List ℕ) : Type 0 where
  pub candidate : IsCandidate f w input_weight earlier name
  pub unpaid : Contains paid name → ⊥

-- the candidates that aren't paid, in the order of their turns: the heaviest first, of equal weights the last name
pub record AreTurns (f : Circuit) (w : Weights) (input_weight : ℕ) (earlier paid turns : List (List ℕ)) : Type 0 where
  pub sound : All (IsUnpaid f w input_weight earlier paid) turns
  pub complete : (name : List ℕ) → IsUnpaid f w input_weight earlier paid name → Contains turns name
  pub ordered : AllPairs (GoesBefore f w input_weight) turns
