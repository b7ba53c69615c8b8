-- Which signals a target's function may be built from: what an input forces, when signals suffice, when one is needed,
-- and which are chosen. Targets get their functions one after the other: p holds the patches that there are, and `earlier`
-- are the targets that come before the one whose turn it is.
use Rattle.std.specs.Prelude.{◌≡◌, ◌≢◌, ◌⊎◌, ℕ, ◌<◌, Bool, true, false, not, List, length, map, slice_get, Some, All, AllPairs, Contains}
use Rattle.eco_meaning.specs.Circuit.{Circuit, Values, IsConsistent, AgreeOn}
use Rattle.eco_meaning.specs.Meaning.{Goal, IsRight}
use Rattle.eco_meaning.specs.Cost.{Weights, AreTurns}

-- v is consistent with f and has the inputs x, and the earlier targets have in it the values of their patches
pub record IsReached (f p : Circuit) (earlier : List (List ℕ)) (x : List Bool) (v : Values) : Type 0 where
  pub consistent : IsConsistent f v
  pub input : map v f.inputs ≡ x
  pub follows : (w : Values) × IsConsistent p w × AgreeOn p.inputs v w × AgreeOn earlier v w

-- at the input x the target must have the bit: with the other bit nothing is right, whatever the later targets have
pub record IsForced (f : Circuit) (goal : Goal) (p : Circuit) (earlier : List (List ℕ)) (target : List ℕ) (x : List Bool) (bit : Bool) : Type 0 where
  pub len : length x ≡ length f.inputs
  pub never : (v : Values) → IsReached f p earlier x v → v target ≡ not bit → IsRight f goal v → ⊥

-- at the input x nothing is right that the patches so far leave
pub record IsLost (f : Circuit) (goal : Goal) (p : Circuit) (earlier : List (List ℕ)) (x : List Bool) : Type 0 where
  pub len : length x ≡ length f.inputs
  pub never : (v : Values) → IsReached f p earlier x v → IsRight f goal v → ⊥

-- the patches so far keep f rectifiable: no input is lost
abbrev pub IsKept : Circuit → Goal → Circuit → List (List ℕ) → Type 0
IsKept f goal p earlier = (x : List Bool) → IsLost f goal p earlier x → ⊥

-- the signals of the set have the same values at the input x as at y
abbrev pub AgreeAt : Circuit → Circuit → List (List ℕ) → (List ℕ → Type 0) → List Bool → List Bool → Type 0
AgreeAt f p earlier Signals x y =
    (v u : Values) → IsReached f p earlier x v → IsReached f p earlier y u →
    (name : List ℕ) → Signals name → v name ≡ u name

-- the signals have the same values at x, which forces the target to 1, as at y, which forces it to 0: then no function
-- of them is right
pub record IsConflict (f : Circuit) (goal : Goal) (p : Circuit) (earlier : List (List ℕ)) (target : List ℕ) (Signals : List ℕ → Type 0) (x y : List Bool) : Type 0 where
  pub one : IsForced f goal p earlier target x true
  pub zero : IsForced f goal p earlier target y false
  pub alike : AgreeAt f p earlier Signals x y

-- the target has a function of these signals
abbrev pub Suffices : Circuit → Goal → Circuit → List (List ℕ) → List ℕ → (List ℕ → Type 0) → Type 0
Suffices f goal p earlier target Signals = (x y : List Bool) → IsConflict f goal p earlier target Signals x y → ⊥

-- the members of the list but one
abbrev pub IsOther : List (List ℕ) → List ℕ → List ℕ → Type 0
IsOther list name other = Contains list other × (other ≢ name)

-- the inputs x and y show that the base needs this signal
abbrev pub IsNeeded : Circuit → Goal → Circuit → List (List ℕ) → List ℕ → List (List ℕ) → List ℕ → List Bool → List Bool → Type 0
IsNeeded f goal p earlier target base name x y = IsConflict f goal p earlier target (IsOther base name) x y

-- the first name stands before the second in the list
abbrev pub Precedes : List (List ℕ) → List ℕ → List ℕ → Type 0
Precedes list first second =
    (i : ℕ) × (j : ℕ) × (i < j) × (slice_get list i ≡ Some first) × (slice_get list j ≡ Some second)

-- what is left without a signal at its turn: the paid signals, those that had their turns before it and were kept,
-- and all whose turns come later
abbrev pub IsLeft : List (List ℕ) → List (List ℕ) → List (List ℕ) → List ℕ → List ℕ → Type 0
IsLeft paid turns kept name other =
    Contains paid other ⊎ (Contains kept other × Precedes turns other name) ⊎ Precedes turns name other

-- The greedy choice among signals that have their turns in the order of a list, beside those that are paid: each is
-- dropped at its turn exactly where what is left without it suffices; those that are kept are listed in that order.
pub record IsGreedy (f : Circuit) (goal : Goal) (p : Circuit) (earlier : List (List ℕ)) (target : List ℕ) (paid turns kept : List (List ℕ)) : Type 0 where
  pub members : All (Contains turns) kept
  pub ordered : AllPairs (Precedes turns) kept
  pub needed : All (λ name. Suffices f goal p earlier target (IsLeft paid turns kept name) → ⊥) kept
  pub dropped : (name : List ℕ) → Contains turns name → (Contains kept name → ⊥) →
      Suffices f goal p earlier target (IsLeft paid turns kept name)

-- the greedy choice among the candidates that aren't paid, the heaviest having the first turn
pub record IsGreedyBase (f : Circuit) (goal : Goal) (w : Weights) (input_weight : ℕ) (p : Circuit) (earlier : List (List ℕ)) (target : List ℕ) (paid kept : List (List ℕ)) : Type 0 where
  pub turns : List (List ℕ)
  pub are_turns : AreTurns f w input_weight earlier paid turns
  pub chosen : IsGreedy f goal p earlier target paid turns kept

-- the bits are the values of these signals at the input x
pub record AreValues (f p : Circuit) (earlier : List (List ℕ)) (signals : List (List ℕ)) (x bits : List Bool) : Type 0 where
  pub some : (v : Values) × IsReached f p earlier x v
  pub only : (v : Values) → IsReached f p earlier x v → map v signals ≡ bits
