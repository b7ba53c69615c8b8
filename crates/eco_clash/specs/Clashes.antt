-- Several inputs at once, a tuple: at which of them a row of the targets' bits is right, when no row is right at all of them, and
-- which signals have one value at all of them.
use Rattle.std.specs.Prelude.{◌≡◌, ℕ, Bool, List, length, map, All, Contains}
use Rattle.eco_meaning.specs.Circuit.{Circuit, Values, IsConsistent}
use Rattle.eco_meaning.specs.Meaning.{Goal, IsRight}

-- v is consistent with f and has the inputs x, and the targets have the row of bits
pub record IsAt (f : Circuit) (targets : List (List ℕ)) (x row : List Bool) (v : Values) : Type 0 where
  pub consistent : IsConsistent f v
  pub input : map v f.inputs ≡ x
  pub bits : map v targets ≡ row

-- with the row of bits at its targets, f is right at the input x
pub record IsRightAt (f : Circuit) (goal : Goal) (targets : List (List ℕ)) (x row : List Bool) : Type 0 where
  pub values : Values
  pub at : IsAt f targets x row values
  pub right : IsRight f goal values

-- f is right with the row at each input of the tuple
abbrev pub IsRightThroughout : Circuit → Goal → List (List ℕ) → List (List Bool) → List Bool → Type 0
IsRightThroughout f goal targets tuple row = (x : List Bool) → Contains tuple x → IsRightAt f goal targets x row

-- no one row of the targets' bits is right at each input of the tuple
pub record IsClash (f : Circuit) (goal : Goal) (targets : List (List ℕ)) (tuple : List (List Bool)) : Type 0 where
  pub len : All (λ x. length x ≡ length f.inputs) tuple
  pub never : (row : List Bool) → IsRightThroughout f goal targets tuple row → ⊥

-- whatever bits the targets have, the net has one value at all inputs of the tuple
abbrev pub IsSteady : Circuit → List (List ℕ) → List (List Bool) → List ℕ → Type 0
IsSteady f targets tuple name =
    (x y row : List Bool) (v u : Values) → Contains tuple x → Contains tuple y → IsAt f targets x row v → IsAt f targets y row u → v name ≡ u name
