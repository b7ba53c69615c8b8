-- Bases that are shown to be the greedy choice by inputs: each signal of one comes with two inputs that show why it is kept.
use Rattle.std.specs.Prelude.{ℕ, Bool, List, ◌++◌, map, All, AllPairs, Contains}
use Rattle.eco_meaning.specs.Circuit.{Circuit}
use Rattle.eco_meaning.specs.Meaning.{Goal}
use Rattle.eco_meaning.specs.Choice.{IsConflict, Suffices, IsNeeded, Precedes, IsLeft, IsGreedy}

-- a signal, and two inputs that show why it is kept: the first forces the target to 1, the second to 0
pub record Witness : Type 0 where
  pub name : List ℕ
  pub one : List Bool
  pub zero : List Bool

-- the signals of witnesses, in order
abbrev pub names_of : List Witness → List (List ℕ)
names_of witnesses = map (λ witness. witness.name) witnesses

-- the witness shows that what is left without its signal, at the turn of that, doesn't suffice
abbrev pub IsShown : Circuit → Goal → Circuit → List (List ℕ) → List ℕ → List (List ℕ) → List (List ℕ) → List (List ℕ) → Witness → Type 0
IsShown f goal p earlier target paid turns kept witness =
    IsConflict f goal p earlier target (IsLeft paid turns kept witness.name) witness.one witness.zero

-- the signals of the witnesses have turns, stand in the order of these, are all shown, and suffice beside the paid ones
pub record IsShownBase (f : Circuit) (goal : Goal) (p : Circuit) (earlier : List (List ℕ)) (target : List ℕ) (paid turns : List (List ℕ)) (witnesses : List Witness) : Type 0 where
  pub members : All (Contains turns) (names_of witnesses)
  pub ordered : AllPairs (Precedes turns) (names_of witnesses)
  pub shown : All (IsShown f goal p earlier target paid turns (names_of witnesses)) witnesses
  pub enough : Suffices f goal p earlier target (Contains (paid ++ names_of witnesses))

-- such a base is the greedy choice, however it was found
abbrev pub ShownBaseIsGreedy : Type 0
ShownBaseIsGreedy =
    (f : Circuit) (goal : Goal) (p : Circuit) (earlier : List (List ℕ)) (target : List ℕ) (paid turns : List (List ℕ)) (witnesses : List Witness) →
    IsShownBase f goal p earlier target paid turns witnesses → IsGreedy f goal p earlier target paid turns (names_of witnesses)

-- and each witness shows that its signal is needed in it
abbrev pub WitnessesShowNeed : Type 0
WitnessesShowNeed =
    (f : Circuit) (goal : Goal) (p : Circuit) (earlier : List (List ℕ)) (target : List ℕ) (paid turns : List (List ℕ)) (witnesses : List Witness) →
    IsShownBase f goal p earlier target paid turns witnesses →
    All (λ witness. IsNeeded f goal p earlier target (paid ++ names_of witnesses) witness.name witness.one witness.zero) witnesses
