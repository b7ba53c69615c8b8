-- What is asked of a tuple of inputs, and what follows from the answers.
use Rattle.std.specs.Prelude.{◌≡◌, ℕ, Bool, List, length, All, Contains}
use Rattle.eco_meaning.specs.Circuit.{Circuit}
use Rattle.eco_meaning.specs.Meaning.{Goal}
use Rattle.eco_clash.specs.Clashes.{IsRightAt, IsRightThroughout, IsClash}

-- there is a bit for each target, and f is right with them at each input of the tuple
pub record IsFixedThroughout (f : Circuit) (goal : Goal) (targets : List (List ℕ)) (tuple : List (List Bool)) (bits : List Bool) : Type 0 where
  pub len : length bits ≡ length targets
  pub right : IsRightThroughout f goal targets tuple bits

-- where there are no such bits, the tuple is a clash
abbrev pub UnfixedClashes : Type 0
UnfixedClashes =
    (f : Circuit) (goal : Goal) (targets : List (List ℕ)) (tuple : List (List Bool)) → All (λ x. length x ≡ length f.inputs) tuple →
    ((bits : List Bool) → IsFixedThroughout f goal targets tuple bits → ⊥) → IsClash f goal targets tuple

-- and a clash has none
abbrev pub ClashesAreUnfixed : Type 0
ClashesAreUnfixed =
    (f : Circuit) (goal : Goal) (targets : List (List ℕ)) (tuple : List (List Bool)) → IsClash f goal targets tuple →
    (bits : List Bool) → IsFixedThroughout f goal targets tuple bits → ⊥

-- the tuple has an input at which f isn't right with this row
abbrev pub IsMissedIn : Circuit → Goal → List (List ℕ) → List (List Bool) → List Bool → Type 0
IsMissedIn f goal targets tuple row = (x : List Bool) × Contains tuple x × (IsRightAt f goal targets x row → ⊥)

-- bits that are right throughout a tuple which misses each listed row aren't listed
abbrev pub FixedRowIsNew : Type 0
FixedRowIsNew =
    (f : Circuit) (goal : Goal) (targets : List (List ℕ)) (rows tuple : List (List Bool)) (bits : List Bool) →
    ((row : List Bool) → Contains rows row → IsMissedIn f goal targets tuple row) →
    IsFixedThroughout f goal targets tuple bits → Contains rows bits → ⊥
