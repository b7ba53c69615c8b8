-- The texts of proofs, as they are read.
use Rattle.std.specs.Prelude.{◌≡◌, ◌⊎◌, ℕ, ◌≤◌, Bool, true, false, List, [], ◌∷◌, ◌++◌, filter, All}
use Rattle.std.specs.List.{flat_map, slice_split}
use Rattle.eco_lists.specs.Lines.{lines_of, IsFirstWithout, is_blank}
use Rattle.eco_check.specs.Steps.{StepValue}
use Rattle.eco_prooftext.specs.declared.error.TraceError.{TraceError}
use Rattle.eco_prooftext.specs.declared.error.TraceError.TheVariants.{TraceSyntax, OutOfMemory}
use Rattle.eco_text.specs.Numbers.{IsNumberUpTo}

-- it is not empty
abbrev pub is_word : List ℕ → Bool
is_word [] = false
is_word (b ∷ more) = true

-- the words of a line: what stands between blanks and isn't empty
abbrev pub words_of : List ℕ → List (List ℕ)
words_of line = filter is_word (slice_split is_blank line)

-- the words are these numbers, one by one
abbrev pub AreNumbers : List (List ℕ) → List ℕ → Type 0
AreNumbers [] numbers = numbers ≡ []
AreNumbers (word ∷ words) [] = ⊥
AreNumbers (word ∷ words) (number ∷ numbers) = IsNumberUpTo 9223372036854775807 word number × AreNumbers words numbers

-- the numbers of pairs, in order
abbrev pub pair_numbers : List (ℕ × ℕ) → List ℕ
pair_numbers pairs = flat_map (λ pair. pair.0 ∷ pair.1 ∷ []) pairs

-- the numbers of a step's line: the id that it starts with, its pairs, and 0; there is no other 0
pub record IsStep (numbers : List ℕ) (step : StepValue) : Type 0 where
  pub row : numbers ≡ step.start ∷ (pair_numbers step.links ++ 0 ∷ [])
  pub start : 1 ≤ step.start
  pub links : All (λ pair. (1 ≤ pair.0) × (1 ≤ pair.1)) step.links

-- the line is that of the step
pub record IsStepLine (line : List ℕ) (step : StepValue) : Type 0 where
  pub numbers : List ℕ
  pub words : AreNumbers (words_of line) numbers
  pub says : IsStep numbers step

-- the line has no words
abbrev pub IsBlank : List ℕ → Type 0
IsBlank line = words_of line ≡ []

-- the line may stand in a proof's text
abbrev pub IsSound : List ℕ → Type 0
IsSound line = IsBlank line ⊎ ((step : StepValue) × IsStepLine line step)

-- the line is that of the first of these steps, and the others are the rest's
abbrev pub BeginsWith : List ℕ → List StepValue → (List StepValue → Type 0) → Type 0
BeginsWith line [] Rest = ⊥
BeginsWith line (step ∷ steps) Rest = IsStepLine line step × Rest steps

-- the lines are those of these steps in order, and blank lines
abbrev pub AreSteps : List (List ℕ) → List StepValue → Type 0
AreSteps [] steps = steps ≡ []
AreSteps (line ∷ lines) steps = (IsBlank line × AreSteps lines steps) ⊎ BeginsWith line steps (AreSteps lines)

-- the text of these steps
abbrev pub IsTraceText : List ℕ → List StepValue → Type 0
IsTraceText bytes steps = AreSteps (lines_of bytes) steps

-- the line of this number, counted from 1, is the first that is neither blank nor a step's
abbrev pub IsFirstBadLine : List (List ℕ) → ℕ → Type 0
IsFirstBadLine lines n = IsFirstWithout IsSound lines n

-- the text is refused for this; a want of memory tells nothing of it
abbrev pub IsRefused : List ℕ → TraceError → Type 0
IsRefused bytes (TraceSyntax n) = IsFirstBadLine (lines_of bytes) n
IsRefused bytes OutOfMemory = Unit {0}
