-- Rows in classes, each of which is named by the number of its first row.
use Rattle.std.specs.Prelude.{◌≡◌, ◌≢◌, ℕ, ◌+◌, ◌<◌, ◌≤◌, Bool, List, Option, None, Some, length, map, slice_get}
use Rattle.eco_lists.specs.Bits.{bit_at}
use Rattle.eco_laws.specs.Columns.{AgreeInPlay}
use Rattle.eco_cover.specs.Rows.{row_of}
use Rattle.eco_cover.specs.declared.classes.Alike.{Alike}

-- the first of the numbers below n that are related to this one
pub record IsFirst (n : ℕ) (R : ℕ → ℕ → Type 0) (k first : ℕ) : Type 0 where
  pub within : first < n
  pub related : R first k
  pub least : (j : ℕ) → j < n → R j k → first ≤ j

-- for each number below n the first that is related to it
pub record AreClasses (n : ℕ) (R : ℕ → ℕ → Type 0) (classes : List ℕ) : Type 0 where
  pub count : length classes ≡ n
  pub firsts : (k first : ℕ) → slice_get classes k ≡ Some first → IsFirst n R k first

-- each class has the number of its first row
abbrev pub AreNamed : List ℕ → Type 0
AreNamed classes = (k first : ℕ) → slice_get classes k ≡ Some first → (slice_get classes first ≡ Some first) × (first ≤ k)

-- rows of one class that have equal bits
abbrev pub AreTogether : List ℕ → List Bool → ℕ → ℕ → Type 0
AreTogether classes bits j k = (slice_get classes j ≡ slice_get classes k) × (slice_get bits j ≡ slice_get bits k)

-- the first row of a class whose bit is another than that of the class's first row
pub record IsFirstOther (classes : List ℕ) (bits : List Bool) (first other : ℕ) : Type 0 where
  pub member : slice_get classes other ≡ Some first
  pub unlike : slice_get bits other ≢ slice_get bits first
  pub least : (j : ℕ) → slice_get classes j ≡ Some first → slice_get bits j ≢ slice_get bits first → other ≤ j

-- such rows by the numbers of classes, where they stand among the first k rows
pub record AreFirstOthers (classes : List ℕ) (bits : List Bool) (k : ℕ) (others : List (Option ℕ)) : Type 0 where
  pub count : length others ≡ length classes
  pub some : (first other : ℕ) → slice_get others first ≡ Some (Some other) → IsFirstOther classes bits first other
  pub none : (first : ℕ) → slice_get others first ≡ Some None → (j : ℕ) → j < k → slice_get classes j ≡ Some first →
      slice_get bits j ≡ slice_get bits first

-- a column: its bit in each row
abbrev pub bits_at : List (List Bool) → ℕ → List Bool
bits_at rows column = map (λ row. bit_at row column) rows

-- the rows of these numbers have the same bits in these columns
abbrev pub AreAlike : (ℕ → Type 0) → List (List Bool) → ℕ → ℕ → Type 0
AreAlike Columns rows j k = (column : ℕ) → Columns column → slice_get (row_of rows j) column ≡ slice_get (row_of rows k) column

-- where the first rows are ones and the others zeros, no class has rows of both kinds
abbrev pub AreUnmixed : ℕ → List ℕ → Type 0
AreUnmixed ones classes = (k first : ℕ) → ones ≤ k → slice_get classes k ≡ Some first → ones ≤ first

-- the class of the zero-row is named by the one-row
pub record IsMixed (ones : ℕ) (classes : List ℕ) (pair : Alike) : Type 0 where
  pub one_in : pair.one < ones
  pub named : slice_get classes (ones + pair.zero) ≡ Some pair.one

-- two rows of both kinds that agree on the columns in play
pub record ShowsAlike (fixed : List ℕ) (from : ℕ) (ones zeros : List (List Bool)) (pair : Alike) : Type 0 where
  pub one_in : pair.one < length ones
  pub zero_in : pair.zero < length zeros
  pub alike : AgreeInPlay fixed from (row_of ones pair.one) (row_of zeros pair.zero)
