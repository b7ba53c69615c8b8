-- Sets of columns that hit rows, and what they weigh.
use Rattle.std.specs.Prelude.{ℕ, ◌+◌, ◌<◌, ◌≤◌, List, [], ◌∷◌, length, All, Contains, get_or}

-- the set has a column of the row
pub record Hits (set row : List ℕ) : Type 0 where
  pub column : ℕ
  pub in_set : Contains set column
  pub in_row : Contains row column

-- the sum of the amounts of the set's columns; one that stands twice counts twice
abbrev pub total : (ℕ → ℕ) → List ℕ → ℕ
total amount [] = 0
total amount (column ∷ set) = amount column + total amount set

-- what a set weighs
abbrev pub weight_of : List ℕ → List ℕ → ℕ
weight_of weights set = total (λ column. get_or weights column 0) set

-- each set of columns that hits all rows weighs this much at least
abbrev pub IsFloor : List (List ℕ) → List ℕ → ℕ → Type 0
IsFloor rows weights best =
    (set : List ℕ) → All (λ column. column < length weights) set → All (Hits set) rows → best ≤ weight_of weights set
