-- What rows of signals' values tell of two inputs, column by column, where some columns are fixed and others are in play from
-- one on.
use Rattle.std.specs.Prelude.{◌≡◌, ◌⊎◌, ◌↔◌, ℕ, ◌+◌, ◌≤◌, Bool, List, ◌++◌, length, map, slice_get, Some, Contains}
use Rattle.eco_meaning.specs.Circuit.{Circuit}
use Rattle.eco_meaning.specs.Choice.{AgreeAt, AreValues}
use Rattle.eco_laws.specs.Front.{Working}

-- the column is fixed, or stands from this one on
abbrev pub IsInPlay : List ℕ → ℕ → ℕ → Type 0
IsInPlay fixed from column = Contains fixed column ⊎ (from ≤ column)

-- a signal whose column is in play
abbrev pub HasColumnInPlay : List (List ℕ) → List ℕ → ℕ → List ℕ → Type 0
HasColumnInPlay signals fixed from name = (column : ℕ) × IsInPlay fixed from column × (slice_get signals column ≡ Some name)

-- two rows have the same bits in the columns in play
abbrev pub AgreeInPlay : List ℕ → ℕ → List Bool → List Bool → Type 0
AgreeInPlay fixed from one other = (column : ℕ) → IsInPlay fixed from column → slice_get one column ≡ slice_get other column

-- signals whose columns are in play agree at two inputs exactly where the rows of their values there agree in these columns
abbrev pub RowsTell : Type 0
RowsTell =
    (f p : Circuit) (earlier signals : List (List ℕ)) (fixed : List ℕ) (from : ℕ) (x y at_x at_y : List Bool) →
    AreValues f p earlier signals x at_x → AreValues f p earlier signals y at_y →
    AgreeAt f p earlier (HasColumnInPlay signals fixed from) x y ↔ AgreeInPlay fixed from at_x at_y

-- where the columns are those of the paid signals and behind them of the turns, a base with all turns from a place on is in
-- play where the columns of the base are fixed
abbrev pub WorkingIsInPlay : Type 0
WorkingIsInPlay =
    (paid turns kept : List (List ℕ)) (fixed : List ℕ) (place : ℕ) →
    map (slice_get (paid ++ turns)) fixed ≡ map Some (paid ++ kept) → (name : List ℕ) →
    Working (paid ++ kept) turns place name ↔ HasColumnInPlay (paid ++ turns) fixed (length paid + place) name
