-- Which columns tell two sets of rows apart, where some are fixed and others are in play from one on.
use Rattle.std.specs.Prelude.{ℕ, ◌<◌, ◌≤◌, ◌+◌, Bool, List, Option, None, Some, length, Contains}
use Rattle.eco_laws.specs.Columns.{AgreeInPlay}
use Rattle.eco_cover.specs.Rows.{row_of}
use Rattle.eco_cover.specs.declared.choice.Kept.{Kept}

-- the fixed columns and those from this one on tell the ones from the zeros: no row of the one kind agrees on them with a row
-- of the other
abbrev pub TellInPlay : List ℕ → ℕ → List (List Bool) → List (List Bool) → Type 0
TellInPlay fixed from ones zeros =
    (one zero : List Bool) → Contains ones one → Contains zeros zero → AgreeInPlay fixed from one zero → ⊥

-- the column is the first from `from` on that is needed: the fixed ones with it and those behind it tell the rows apart, and
-- these two rows are told apart by it alone
pub record IsNext (width : ℕ) (fixed : List ℕ) (from : ℕ) (ones zeros : List (List Bool)) (kept : Kept) : Type 0 where
  pub behind : from ≤ kept.column
  pub within : kept.column < width
  pub tell : TellInPlay fixed kept.column ones zeros
  pub one_in : kept.one < length ones
  pub zero_in : kept.zero < length zeros
  pub alike : AgreeInPlay fixed (kept.column + 1) (row_of ones kept.one) (row_of zeros kept.zero)

-- the next column that is needed, or none where the fixed ones tell the rows apart
abbrev pub IsNextOrNone : ℕ → List ℕ → ℕ → List (List Bool) → List (List Bool) → Option Kept → Type 0
IsNextOrNone width fixed from ones zeros None = TellInPlay fixed width ones zeros
IsNextOrNone width fixed from ones zeros (Some kept) = IsNext width fixed from ones zeros kept
