-- What is meant by: targets can get their functions one after the other, and in the end the splice does what is asked.
use Rattle.std.specs.Prelude.{◌≡◌, ◌↔◌, ℕ, Bool, List, [], ◌∷◌, ◌++◌, Some, Contains}
use Rattle.eco_meaning.specs.Circuit.{Circuit, Values, IsConsistent, AgreeOn}
use Rattle.eco_meaning.specs.Meaning.{Goal, IsRectifiable, IsEquivalent}
use Rattle.eco_meaning.specs.Patch.{Fits, splice_of}
use Rattle.eco_meaning.specs.Choice.{IsReached, IsForced, IsKept}
use Rattle.eco_laws.specs.Sound.{IsSound}
use Rattle.eco_laws.specs.Reached.{IsPatchOf}

-- whatever bits the netlist's inputs have, it has a consistent map with them
abbrev pub TakesAnyInputs : Circuit → Type 0
TakesAnyInputs p = (v : Values) → (w : Values) × IsConsistent p w × AgreeOn p.inputs v w

-- a sound netlist takes any inputs, and so does one without gates
abbrev pub SoundTakesAnyInputs : Type 0
SoundTakesAnyInputs = (p : Circuit) → IsSound p → TakesAnyInputs p

abbrev pub NoGatesTakeAnyInputs : Type 0
NoGatesTakeAnyInputs = (p : Circuit) → p.gates ≡ [] → TakesAnyInputs p

-- at each input that forces the target, the patch's function for the target has the bit that is forced
abbrev pub HasForcedBits : Circuit → Goal → Circuit → List (List ℕ) → List ℕ → Type 0
HasForcedBits f goal p earlier target =
    (x : List Bool) (bit : Bool) → IsForced f goal p earlier target x bit →
    (v w : Values) → IsReached f p earlier x v → IsConsistent p w → AgreeOn p.inputs v w → w target ≡ bit

-- the inputs of the cared netlist, where there is one, are inputs of f
abbrev pub CaresForInputs : Circuit → Goal → Type 0
CaresForInputs f goal =
    (care : Circuit) → goal.care ≡ Some care → (name : List ℕ) → Contains care.inputs name → Contains f.inputs name

-- before any target has a function, kept is rectifiable
abbrev pub KeptIsRectifiable : Type 0
KeptIsRectifiable =
    (f : Circuit) (goal : Goal) (p : Circuit) → TakesAnyInputs p → IsKept f goal p [] ↔ IsRectifiable f goal

-- a function with the forced bits keeps f rectifiable
abbrev pub ForcedBitsKeep : Type 0
ForcedBitsKeep =
    (f : Circuit) (goal : Goal) (p : Circuit) (earlier : List (List ℕ)) (target : List ℕ) →
    IsPatchOf f p (earlier ++ target ∷ []) → HasForcedBits f goal p earlier target →
    IsKept f goal p earlier → IsKept f goal p (earlier ++ target ∷ [])

-- when each target has its function, kept is equivalent
abbrev pub KeptIsEquivalent : Type 0
KeptIsEquivalent =
    (f : Circuit) (goal : Goal) (p : Circuit) → IsSound f → IsSound p → Fits f p [] → CaresForInputs f goal →
    IsKept f goal p p.outputs ↔ IsEquivalent (splice_of f p) goal

-- what some patch makes equivalent can be rectified, so it has no wrong input
abbrev pub PatchesShowRectifiable : Type 0
PatchesShowRectifiable =
    (f : Circuit) (goal : Goal) (p : Circuit) → IsSound f → IsSound p → Fits f p [] → CaresForInputs f goal →
    IsEquivalent (splice_of f p) goal → IsRectifiable f goal

-- each target's function has the bits that are forced
abbrev pub HasAllForcedBits : Circuit → Goal → Circuit → Type 0
HasAllForcedBits f goal p =
    (before : List (List ℕ)) (target : List ℕ) (behind : List (List ℕ)) → p.outputs ≡ before ++ target ∷ behind →
    HasForcedBits f goal p before target

-- a patch of all targets is right exactly where f can be rectified and each target's function has the bits that are forced
abbrev pub ForcedBitsAreAll : Type 0
ForcedBitsAreAll =
    (f : Circuit) (goal : Goal) (p : Circuit) → IsSound f → IsSound p → Fits f p [] → CaresForInputs f goal →
    IsEquivalent (splice_of f p) goal ↔ (IsRectifiable f goal × HasAllForcedBits f goal p)
