-- Rows as lists of their columns.
use Rattle.std.specs.Prelude.{◌≡◌, ℕ, Bool, true, false, List, [], ◌∷◌, ◌++◌, Contains}

-- the columns of the row are those that have the property
pub record IsSetOf (Has : ℕ → Type 0) (row : List ℕ) : Type 0 where
  pub only : (column : ℕ) → Contains row column → Has column
  pub all : (column : ℕ) → Has column → Contains row column

-- one column more where this is so, else none
abbrev pub AddsIf : List ℕ → List ℕ → ℕ → Bool → Type 0
AddsIf old new column true = new ≡ old ++ column ∷ []
AddsIf old new column false = new ≡ old
