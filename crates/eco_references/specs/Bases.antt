-- Signals that suffice for a target, shown without a question about two inputs.
use Rattle.std.specs.Prelude.{◌≡◌, ℕ, Bool, true, false, List, [], ◌∷◌, ◌++◌, length, Contains}
use Rattle.eco_meaning.specs.Circuit.{Circuit, Fan}
use Rattle.eco_meaning.specs.Meaning.{Goal, IsEquivalent}
use Rattle.eco_meaning.specs.Patch.{Fits, splice_of}
use Rattle.eco_meaning.specs.Choice.{IsKept, AgreeAt, Suffices}
use Rattle.eco_laws.specs.Sound.{IsSound}
use Rattle.eco_laws.specs.Kept.{CaresForInputs}
use Rattle.eco_laws.specs.Parts.{LeavesTheSame}
use Rattle.eco_laws.specs.Reached.{IsPatchOf}
use Rattle.eco_references.specs.References.{Reference, IsKeptBy}

-- the patch's function for the target reads no others of the patch's inputs than these
abbrev pub ReadsAlone : Circuit → List ℕ → List (List ℕ) → Type 0
ReadsAlone q target signals = (signal : List ℕ) → Contains q.inputs signal → Fan q signal target → Contains signals signal

-- at the inputs x and y the signals have the same values, and the function has not
pub record IsUndetermined (f p : Circuit) (earlier : List (List ℕ)) (r : Reference) (signals : List (List ℕ)) (x y : List Bool) : Type 0 where
  pub one_len : length x ≡ length f.inputs
  pub zero_len : length y ≡ length f.inputs
  pub one : r x ≡ true
  pub zero : r y ≡ false
  pub alike : AgreeAt f p earlier (Contains signals) x y

-- the signals determine the function
abbrev pub Determines : Circuit → Circuit → List (List ℕ) → Reference → List (List ℕ) → Type 0
Determines f p earlier r signals = (x y : List Bool) → IsUndetermined f p earlier r signals x y → ⊥

-- what the target's function reads in a patch with which f is kept rectifiable suffices
abbrev pub KeptSuffices : Type 0
KeptSuffices =
    (f : Circuit) (goal : Goal) (p q : Circuit) (earlier : List (List ℕ)) (target : List ℕ) (signals : List (List ℕ)) →
    IsPatchOf f q (earlier ++ target ∷ []) → LeavesTheSame f p q earlier → ReadsAlone q target signals →
    IsKept f goal q (earlier ++ target ∷ []) → Suffices f goal p earlier target (Contains signals)

-- signals that determine a function that the target may have suffice
abbrev pub DeterminedSuffices : Type 0
DeterminedSuffices =
    (f : Circuit) (goal : Goal) (p : Circuit) (earlier : List (List ℕ)) (target : List ℕ) (r : Reference) (signals : List (List ℕ)) →
    IsKeptBy f goal p earlier target r → Determines f p earlier r signals → Suffices f goal p earlier target (Contains signals)

-- with a patch that does what is asked, f is kept rectifiable at each of its first targets
abbrev pub PrefixesKeep : Type 0
PrefixesKeep =
    (f : Circuit) (goal : Goal) (p : Circuit) (first later : List (List ℕ)) → IsSound f → IsSound p → Fits f p [] → CaresForInputs f goal →
    IsEquivalent (splice_of f p) goal → p.outputs ≡ first ++ later → IsKept f goal p first
