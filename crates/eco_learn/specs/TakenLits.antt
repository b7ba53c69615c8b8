-- Literals that are taken to be true, and the arrays that tell of each variable.
use Rattle.std.specs.Prelude.{◌≡◌, ℕ, suc, ◌+◌, ◌<◌, ◌≤◌, ◌^◌, Bool, List, [], ◌∷◌, length, slice_get, Option, Some, None, All, Contains}
use Rattle.eco_trace.specs.declared.clause.Lit.{Lit}
use Rattle.eco_trace.specs.Clauses.{IsVarWithin}

-- literals over the variables from 1 to `vars`
pub record Literals : Type 0 where
  pub vars : ℕ
  pub lits : List Lit

-- the literal of a variable's number that is true where the variable has this value
abbrev pub literal : ℕ → Bool → Lit
literal v b = record { var = record { 0 = v }; positive = b }

-- how many places have no value
abbrev pub count_open : List (Option Bool) → ℕ
count_open [] = 0
count_open (None ∷ values) = suc (count_open values)
count_open (Some b ∷ values) = count_open values

-- from place 1 on each has a value
abbrev pub HasNoneOpen : List (Option Bool) → Type 0
HasNoneOpen values = (v : ℕ) → 0 < v → v < length values → slice_get values v ≡ Some None → ⊥

-- the values are just those that the literals give to their variables, each literal's place is noted at its variable,
-- and there is room for all variables
pub record AreKept (vars : ℕ) (values : List (Option Bool)) (places : List ℕ) (lits : List Lit) (room : ℕ) : Type 0 where
  pub values_long : length values ≡ vars + 1
  pub places_long : length places ≡ vars + 1
  pub small : vars < 2 ^ 31
  pub roomy : vars ≤ room
  pub within : All (IsVarWithin vars) lits
  pub told : (v : ℕ) (b : Bool) → slice_get values v ≡ Some (Some b) → Contains lits (literal v b)
  pub known : (l : Lit) → Contains lits l → slice_get values l.var.0 ≡ Some (Some l.positive)
  pub placed : (place : ℕ) (l : Lit) → slice_get lits place ≡ Some l → slice_get places l.var.0 ≡ Some place
  pub count : count_open values + length lits ≡ vars + 1
