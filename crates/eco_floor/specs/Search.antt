-- Sets that agree with decisions, and what is left of the weights of columns.
use Rattle.std.specs.Prelude.{◌≡◌, ◌≢◌, ℕ, ◌+◌, ◌-◌, ◌<◌, ◌≤◌, List, [], ◌∷◌, Bool, true, false, Option, None, Some, option_map, length, take, All, Contains, unwrap_or}
use Rattle.std.specs.List.{slice_get}
use Rattle.eco_floor.specs.declared.decision.Decision.{Decision}
use Rattle.eco_floor.specs.declared.decision.Decision.TheVariants.{Taken, Left}
use Rattle.eco_floor.specs.Sets.{Hits, total, weight_of}

-- a set of columns that hits all rows, has the columns that are taken and none that is left out
pub record Agrees (rows : List (List ℕ)) (weights : List ℕ) (decisions : List Decision) (set : List ℕ) : Type 0 where
  pub within : All (λ column. column < length weights) set
  pub hits : All (Hits set) rows
  pub taken : (column : ℕ) → Contains decisions (Taken column) → Contains set column
  pub left : (column : ℕ) → Contains decisions (Left column) → Contains set column → ⊥

-- each set that agrees with the decisions weighs this much at least
abbrev pub AreAbove : List (List ℕ) → List ℕ → ℕ → List Decision → Type 0
AreAbove rows weights best decisions = (set : List ℕ) → Agrees rows weights decisions set → best ≤ weight_of weights set

-- where a column is left out, each set that has it and agrees with the decisions before weighs this much at least
abbrev pub AreSettled : List (List ℕ) → List ℕ → ℕ → List Decision → Type 0
AreSettled rows weights best decisions =
    (k column : ℕ) → slice_get decisions k ≡ Some (Left column) →
    (set : List ℕ) → Agrees rows weights (take k decisions) set → Contains set column → best ≤ weight_of weights set

-- what is left of the weight of a column; none where it is left out, or is no column
abbrev pub flat : Option (Option ℕ) → Option ℕ
flat None = None
flat (Some rest) = rest

abbrev pub rest_at : List (Option ℕ) → ℕ → Option ℕ
rest_at slack column = flat (slice_get slack column)

-- what is left of the weights of a set's columns
abbrev pub rest_of : List (Option ℕ) → List ℕ → ℕ
rest_of slack set = total (λ column. unwrap_or (rest_at slack column) 0) set

-- this amount or more was taken from what was left, if any was
abbrev pub Falls : ℕ → Option ℕ → Option ℕ → Type 0
Falls amount None None = Unit {0}
Falls amount (Some old) (Some new) = new + amount ≤ old
Falls amount None (Some new) = ⊥
Falls amount (Some old) None = ⊥

-- this amount or more was taken from each column of the row that isn't left out
pub record IsLowered (row : List ℕ) (old new : List (Option ℕ)) (amount : ℕ) : Type 0 where
  pub kept : (column : ℕ) → Falls 0 (rest_at old column) (rest_at new column)
  pub paid : (column : ℕ) → Contains row column → Falls amount (rest_at old column) (rest_at new column)

-- no column of the row has less left than this; none: each is left out
abbrev pub IsAtMost : Option ℕ → ℕ → Type 0
IsAtMost None rest = ⊥
IsAtMost (Some amount) rest = amount ≤ rest

abbrev pub IsLeast : List (Option ℕ) → List ℕ → Option ℕ → Type 0
IsLeast slack row least = (column rest : ℕ) → Contains row column → rest_at slack column ≡ Some rest → IsAtMost least rest

-- only what is left of this column is another
pub record ChangesAt (old new : List (Option ℕ)) (column : ℕ) (rest : Option ℕ) : Type 0 where
  pub here : rest_at new column ≡ rest
  pub others : (other : ℕ) → other ≢ column → rest_at new other ≡ rest_at old other

-- the amount that the decision takes from what is left
abbrev pub IsDecided : Decision → List (Option ℕ) → List (Option ℕ) → ℕ → Type 0
IsDecided (Taken column) old new amount = IsLowered (column ∷ []) old new amount
IsDecided (Left column) old new amount = (amount ≡ 0) × ChangesAt old new column None

-- each set that agrees with the decisions weighs this bound and what is left of its columns, and none of them is left out
pub record IsPacked (rows : List (List ℕ)) (weights : List ℕ) (decisions : List Decision) (slack : List (Option ℕ)) (bound : ℕ) : Type 0 where
  pub below : (set : List ℕ) → Agrees rows weights decisions set → bound + rest_of slack set ≤ weight_of weights set
  pub open_in : (set : List ℕ) (column : ℕ) → Agrees rows weights decisions set → Contains set column → rest_at slack column ≢ None

-- less by the amount, or nothing
abbrev pub less_by : ℕ → Option ℕ → Option ℕ
less_by amount rest = option_map (λ old. old - amount) rest

-- the row took its amount from what is left, and the sum is at most the old one with it; none: each of its columns is left out
abbrev pub IsRowPacked : List ℕ → List (Option ℕ) → List (Option ℕ) → ℕ → Option ℕ → Type 0
IsRowPacked row old new sum None = (column : ℕ) → Contains row column → rest_at old column ≡ None
IsRowPacked row old new sum (Some more) = (amount : ℕ) × (more ≤ sum + amount) × IsLowered row old new amount

-- after a node where all sets that agree weigh enough: the decisions that are left to search, or all sets do
abbrev pub IsTurned : List (List ℕ) → List ℕ → ℕ → List Decision → Bool → Type 0
IsTurned rows weights best decisions true = AreSettled rows weights best decisions
IsTurned rows weights best decisions false = AreAbove rows weights best []
