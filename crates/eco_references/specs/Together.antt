-- References of all targets that have no function yet, with which the netlist is right together.
use Rattle.std.specs.Prelude.{◌≡◌, ℕ, Bool, not, List, [], ◌∷◌, ◌++◌, length, Contains}
use Rattle.eco_meaning.specs.Circuit.{Circuit, Values, IsConsistent, AgreeOn, IsTarget}
use Rattle.eco_meaning.specs.Meaning.{Goal, IsRight, IsRectifiable, IsEquivalent}
use Rattle.eco_meaning.specs.Patch.{Fits, splice_of}
use Rattle.eco_meaning.specs.Choice.{IsReached, IsKept}
use Rattle.eco_laws.specs.Sound.{IsSound}
use Rattle.eco_laws.specs.Kept.{CaresForInputs, TakesAnyInputs}
use Rattle.eco_laws.specs.Parts.{LeavesTheSame}
use Rattle.eco_laws.specs.Reached.{IsPatchOf}
use Rattle.eco_references.specs.References.{Reference, IsKeptBy}

-- targets of f that aren't among the first ones
abbrev pub AreOpen : Circuit → List (List ℕ) → List (List ℕ) → Type 0
AreOpen f first later = (target : List ℕ) → Contains later target → IsTarget f target × (Contains first target → ⊥)

-- a function for each target
abbrev pub References : Type 0
References = List ℕ → Reference

-- at the input x nothing is right in which each open target has the bit of its function
pub record IsLostBy (f : Circuit) (goal : Goal) (p : Circuit) (earlier open_targets : List (List ℕ)) (rs : References) (x : List Bool) : Type 0 where
  pub len : length x ≡ length f.inputs
  pub never : (v : Values) → IsReached f p earlier x v → ((target : List ℕ) → Contains open_targets target → v target ≡ rs target x) → IsRight f goal v → ⊥

-- there is no such input: the functions are references of the open targets, with which f is right together
abbrev pub AreReferences : Circuit → Goal → Circuit → List (List ℕ) → List (List ℕ) → References → Type 0
AreReferences f goal p earlier open_targets rs = (x : List Bool) → IsLostBy f goal p earlier open_targets rs x → ⊥

-- the patch's function for the target is this one, where the earlier targets have the patch's functions
abbrev pub HasReference : Circuit → Circuit → List (List ℕ) → List ℕ → Reference → Type 0
HasReference f q earlier target r =
    (x : List Bool) (v w : Values) → IsReached f q earlier x v → IsConsistent q w → AgreeOn q.inputs v w → w target ≡ r x

-- all functions of the patch are these
abbrev pub FollowsReferences : Circuit → Circuit → References → Type 0
FollowsReferences f q rs =
    (before : List (List ℕ)) (target : List ℕ) (behind : List (List ℕ)) → q.outputs ≡ before ++ target ∷ behind →
    HasReference f q before target (rs target)

-- references show that f is kept rectifiable, and that each open target may have its reference
abbrev pub ReferencesKeep : Type 0
ReferencesKeep =
    (f : Circuit) (goal : Goal) (p : Circuit) (earlier open_targets : List (List ℕ)) (rs : References) →
    AreReferences f goal p earlier open_targets rs →
    IsKept f goal p earlier × ((target : List ℕ) → Contains open_targets target → IsKeptBy f goal p earlier target (rs target))

-- references of all targets show that f can be rectified
abbrev pub ReferencesRectify : Type 0
ReferencesRectify =
    (f : Circuit) (goal : Goal) (p : Circuit) (open_targets : List (List ℕ)) (rs : References) → TakesAnyInputs p →
    AreReferences f goal p [] open_targets rs → IsRectifiable f goal

-- a target that gets its reference leaves references of the others
abbrev pub ReferencesGoOn : Type 0
ReferencesGoOn =
    (f : Circuit) (goal : Goal) (p q : Circuit) (earlier : List (List ℕ)) (target : List ℕ) (behind : List (List ℕ)) (rs : References) →
    LeavesTheSame f p q earlier → HasReference f q earlier target (rs target) →
    AreReferences f goal p earlier (target ∷ behind) rs → AreReferences f goal q (earlier ++ target ∷ []) behind rs

-- at the input x nothing is right in which the target has this bit and each later one the bit of its function
pub record IsLostBeside (f : Circuit) (goal : Goal) (p : Circuit) (earlier : List (List ℕ)) (target : List ℕ) (bit : Bool) (later : List (List ℕ)) (rs : References) (x : List Bool) : Type 0 where
  pub len : length x ≡ length f.inputs
  pub never : (v : Values) → IsReached f p earlier x v → v target ≡ bit → ((other : List ℕ) → Contains later other → v other ≡ rs other x) → IsRight f goal v → ⊥

-- where one bit of the target is lost beside the functions of the later ones, the patch's function for it has the other bit
abbrev pub HasBitsBeside : Circuit → Goal → Circuit → Circuit → List (List ℕ) → List ℕ → List (List ℕ) → References → Type 0
HasBitsBeside f goal p q earlier target later rs =
    (x : List Bool) (bit : Bool) → IsLostBeside f goal p earlier target bit later rs x →
    (v w : Values) → IsReached f q earlier x v → IsConsistent q w → AgreeOn q.inputs v w → w target ≡ not bit

-- then these functions are references of the later targets, whatever they were before
abbrev pub LaterStayReferences : Type 0
LaterStayReferences =
    (f : Circuit) (goal : Goal) (p q : Circuit) (earlier : List (List ℕ)) (target : List ℕ) (later : List (List ℕ)) (rs : References) →
    IsPatchOf f q (earlier ++ target ∷ []) → LeavesTheSame f p q earlier → AreOpen f (earlier ++ target ∷ []) later →
    HasBitsBeside f goal p q earlier target later rs → AreReferences f goal q (earlier ++ target ∷ []) later rs

-- a patch of all targets whose functions are the references does what is asked
abbrev pub FollowersAreRight : Type 0
FollowersAreRight =
    (f : Circuit) (goal : Goal) (q : Circuit) (rs : References) → IsSound f → IsSound q → Fits f q [] → CaresForInputs f goal →
    AreReferences f goal q [] q.outputs rs → FollowsReferences f q rs → IsEquivalent (splice_of f q) goal
