-- What a weight file says, and when it is refused.
use Rattle.std.specs.Prelude.{◌≡◌, ◌≢◌, ◌⊎◌, ℕ, ◌≤◌, List, [], ◌∷◌, map, count_by, Result, Err}
use Rattle.std.specs.Cmp.Lexicographic.{slice_cmp}
use Rattle.std.specs.List.{IsDistinct}
use Rattle.std.specs.Ordering.{nat_cmp}
use Rattle.std.specs.Str.{bytes_eq}
use Rattle.std.specs.declared.cmp.Ordering.TheVariants.{Less}
use Rattle.eco_lists.specs.Lines.{lines_of, IsFirstWithout}
use Rattle.eco_meaning.specs.Cost.{Weights}
use Rattle.eco_weight.specs.declared.error.WeightError.{WeightError}
use Rattle.eco_weight.specs.declared.error.WeightError.TheVariants.{Line, Twice, OutOfMemory}
use Rattle.eco_weight.specs.Lines.{Says, IsBlank, IsSound}

-- the first of these lines says the pair that stands first, and the others tell the rest
abbrev pub GivesFirst : List ℕ → Weights → (Weights → Type 0) → Type 0
GivesFirst line [] Rest = ⊥
GivesFirst line (pair ∷ told) Rest = Says line pair.0 pair.1 × Rest told

-- the pairs that the lines say, in order: a blank line says none, any other line one
abbrev pub Give : List (List ℕ) → Weights → Type 0
Give [] told = told ≡ []
Give (line ∷ lines) told = (IsBlank line × Give lines told) ⊎ GivesFirst line told (Give lines)

-- the names of pairs, in order
abbrev pub names_in : Weights → List (List ℕ)
names_in told = map (λ pair. pair.0) told

-- the file gives these weights: its lines tell them, and no two of their names are equal
pub record AreWeights (bytes : List ℕ) (weights : Weights) : Type 0 where
  pub told : Give (lines_of bytes) weights
  pub distinct : IsDistinct bytes_eq (names_in weights)

-- the line of this number, counted from 1, is the first that is neither blank nor says a pair
abbrev pub IsFirstBadLine : List (List ℕ) → ℕ → Type 0
IsFirstBadLine lines n = IsFirstWithout IsSound lines n

-- the name stands in two of the pairs or more
abbrev pub OccursTwice : Weights → List ℕ → Type 0
OccursTwice told name = 2 ≤ count_by (bytes_eq name) (names_in told)

-- no line of the file is at fault, and this is the smallest name, in the order of bytes, that stands on two of them
pub record IsTwice (bytes name : List ℕ) : Type 0 where
  pub pairs : Weights
  pub told : Give (lines_of bytes) pairs
  pub twice : OccursTwice pairs name
  pub least : (other : List ℕ) → OccursTwice pairs other → slice_cmp nat_cmp other name ≢ Less

-- the file is refused for this; a want of memory tells nothing of it
abbrev pub IsRefused : List ℕ → WeightError → Type 0
IsRefused bytes (Line n) = IsFirstBadLine (lines_of bytes) n
IsRefused bytes (Twice name) = IsTwice bytes name
IsRefused bytes OutOfMemory = Unit {0}

-- this is the answer, unless memory could not be had
abbrev pub IsUnlessMemory : Result Weights WeightError → Result Weights WeightError → Type 0
IsUnlessMemory result answer = (result ≡ answer) ⊎ (result ≡ Err OutOfMemory)
