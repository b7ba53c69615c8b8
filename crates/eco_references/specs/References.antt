-- References: functions of a netlist's inputs that a target may have. Targets get their functions one after the other: p holds the
-- patches that there are, and `earlier` are the targets that come before the one whose turn it is.
use Rattle.std.specs.Prelude.{◌≡◌, ◌↔◌, ℕ, Bool, List, length}
use Rattle.eco_meaning.specs.Circuit.{Circuit, Values}
use Rattle.eco_meaning.specs.Meaning.{Goal, IsRight}
use Rattle.eco_meaning.specs.Choice.{IsReached, IsForced, IsKept}

-- a function of the inputs, one bit for each of them
abbrev pub Reference : Type 0
Reference = List Bool → Bool

-- at the input x nothing is right in which the target has the bit of the function
pub record IsLostWith (f : Circuit) (goal : Goal) (p : Circuit) (earlier : List (List ℕ)) (target : List ℕ) (r : Reference) (x : List Bool) : Type 0 where
  pub len : length x ≡ length f.inputs
  pub never : (v : Values) → IsReached f p earlier x v → v target ≡ r x → IsRight f goal v → ⊥

-- the target may have this function: it keeps f rectifiable
abbrev pub IsKeptBy : Circuit → Goal → Circuit → List (List ℕ) → List ℕ → Reference → Type 0
IsKeptBy f goal p earlier target r = (x : List Bool) → IsLostWith f goal p earlier target r x → ⊥

-- where an input forces the target, the function has the bit that is forced
abbrev pub MeetsForced : Circuit → Goal → Circuit → List (List ℕ) → List ℕ → Reference → Type 0
MeetsForced f goal p earlier target r = (x : List Bool) (bit : Bool) → IsForced f goal p earlier target x bit → r x ≡ bit

-- a function keeps f rectifiable exactly if that is what f is, and the function has the bits that are forced
abbrev pub KeptByForced : Type 0
KeptByForced =
    (f : Circuit) (goal : Goal) (p : Circuit) (earlier : List (List ℕ)) (target : List ℕ) (r : Reference) →
    IsKeptBy f goal p earlier target r ↔ (IsKept f goal p earlier × MeetsForced f goal p earlier target r)
