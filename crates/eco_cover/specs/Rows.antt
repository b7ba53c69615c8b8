-- Rows of bits.
use Rattle.std.specs.Prelude.{ℕ, Bool, List, []}
use Rattle.std.specs.List.{slice_index_or}

-- a row by its number, and a bit of a row by the number of its column
abbrev pub row_of : List (List Bool) → ℕ → List Bool
row_of rows i = slice_index_or rows i []
