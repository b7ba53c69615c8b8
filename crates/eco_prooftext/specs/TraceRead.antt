-- What the reader of proofs finds in one line.
use Rattle.std.specs.Prelude.{◌≡◌, ◌≤◌, ℕ, List, [], ◌∷◌, ◌++◌, All}
use Rattle.eco_check.specs.Steps.{StepValue}
use Rattle.eco_prooftext.specs.declared.trace_line.Line.{Line}
use Rattle.eco_prooftext.specs.declared.trace_line.Line.TheVariants.{Blank, Taken, Fault}
use Rattle.eco_prooftext.specs.TraceFile.{pair_numbers, IsStep, IsStepLine, IsBlank, IsSound, AreSteps}

-- the numbers before the last 0 of a step's line
pub record IsFront (front : List ℕ) (step : StepValue) : Type 0 where
  pub row : front ≡ step.start ∷ pair_numbers step.links
  pub start : 1 ≤ step.start
  pub links : All (λ pair. (1 ≤ pair.0) × (1 ≤ pair.1)) step.links

-- the numbers before the last 0, where a 0 may stand among them
pub record IsRow (start : ℕ) (pairs : List ℕ) (step : StepValue) : Type 0 where
  pub begins : step.start ≡ start
  pub goes_on : pair_numbers step.links ≡ pairs

-- the numbers of a line are what was found
abbrev pub Numbered : List ℕ → Line → Type 0
Numbered numbers Blank = numbers ≡ []
Numbered numbers (Taken step) = IsStep numbers step
Numbered numbers Fault = (numbers ≡ [] → ⊥) × ((step : StepValue) → IsStep numbers step → ⊥)

-- the line is what was found
abbrev pub ReadsAs : List ℕ → Line → Type 0
ReadsAs line Blank = IsBlank line
ReadsAs line (Taken step) = IsStepLine line step
ReadsAs line Fault = IsSound line → ⊥

-- these steps are those of the lines, and with one line more those
abbrev pub TakesLine : List ℕ → List StepValue → List StepValue → Type 0
TakesLine line old new = (lines : List (List ℕ)) → AreSteps lines old → AreSteps (lines ++ line ∷ []) new
