-- The certified front of a greedy choice: what it keeps among the signals whose turns come before a place, with its reasons,
-- and how a front begins, goes on and ends.
use Rattle.std.specs.Prelude.{◌≡◌, ◌⊎◌, ◌↔◌, ℕ, ◌+◌, ◌<◌, ◌≤◌, ◌≢◌, List, [], ◌∷◌, ◌++◌, length, drop, slice_get, Some, All, AllPairs, Contains}
use Rattle.eco_meaning.specs.Circuit.{Circuit}
use Rattle.eco_meaning.specs.Meaning.{Goal}
use Rattle.eco_meaning.specs.Cost.{Weights, AreTurns}
use Rattle.eco_meaning.specs.Choice.{IsConflict, Suffices, Precedes}
use Rattle.eco_laws.specs.Witnesses.{Witness, names_of, IsShown, IsShownBase}

-- the name has a turn before the place
abbrev pub HasTurnBefore : List (List ℕ) → ℕ → List ℕ → Type 0
HasTurnBefore turns place name = (j : ℕ) × (j < place) × (slice_get turns j ≡ Some name)

-- the name has a turn at the place or behind it
abbrev pub HasTurnFrom : List (List ℕ) → ℕ → List ℕ → Type 0
HasTurnFrom turns place name = (j : ℕ) × (place ≤ j) × (slice_get turns j ≡ Some name)

-- the base and all signals whose turns come from a place on
abbrev pub Working : List (List ℕ) → List (List ℕ) → ℕ → List ℕ → Type 0
Working base turns place name = Contains base name ⊎ HasTurnFrom turns place name

-- it is the members of a list: those of the base, and behind them the turns from the place on
abbrev pub WorkingIsListed : Type 0
WorkingIsListed =
    (base turns : List (List ℕ)) (place : ℕ) (name : List ℕ) → Working base turns place name ↔ Contains (base ++ drop place turns) name

-- The witnesses' signals are what the greedy choice keeps among those whose turns come before the place: they stand in
-- the order of the turns, each is shown, and beside the paid ones they suffice with all that have their turns from the
-- place on.
pub record IsFront (f : Circuit) (goal : Goal) (p : Circuit) (earlier : List (List ℕ)) (target : List ℕ) (paid turns : List (List ℕ)) (place : ℕ) (witnesses : List Witness) : Type 0 where
  pub before : All (HasTurnBefore turns place) (names_of witnesses)
  pub ordered : AllPairs (Precedes turns) (names_of witnesses)
  pub shown : All (IsShown f goal p earlier target paid turns (names_of witnesses)) witnesses
  pub enough : Suffices f goal p earlier target (Working (paid ++ names_of witnesses) turns place)

-- begin: where all signals that have a turn suffice beside the paid ones, nothing is kept of those before the first
abbrev pub FrontBegins : Type 0
FrontBegins =
    (f : Circuit) (goal : Goal) (p : Circuit) (earlier : List (List ℕ)) (target : List ℕ) (paid turns : List (List ℕ)) →
    Suffices f goal p earlier target (Contains (paid ++ turns)) → IsFront f goal p earlier target paid turns 0 []

-- skip: where what the front kept suffices with all from a later place on, nothing is kept up to that place
abbrev pub FrontSkips : Type 0
FrontSkips =
    (f : Circuit) (goal : Goal) (p : Circuit) (earlier : List (List ℕ)) (target : List ℕ) (paid turns : List (List ℕ)) (place later : ℕ) (witnesses : List Witness) →
    IsFront f goal p earlier target paid turns place witnesses → place ≤ later →
    Suffices f goal p earlier target (Working (paid ++ names_of witnesses) turns later) →
    IsFront f goal p earlier target paid turns later witnesses

-- keep: the signal that has its turn at the place is kept where two inputs show that what the front kept and all behind
-- that place don't suffice; each signal has one turn
abbrev pub FrontKeeps : Type 0
FrontKeeps =
    (f : Circuit) (goal : Goal) (p : Circuit) (earlier : List (List ℕ)) (target : List ℕ) (paid turns : List (List ℕ)) (place : ℕ) (witnesses : List Witness) (witness : Witness) →
    AllPairs (λ a b. a ≢ b) turns → IsFront f goal p earlier target paid turns place witnesses →
    slice_get turns place ≡ Some witness.name →
    IsConflict f goal p earlier target (Working (paid ++ names_of witnesses) turns (place + 1)) witness.one witness.zero →
    IsFront f goal p earlier target paid turns (place + 1) (witnesses ++ witness ∷ [])

-- end: a front behind the last turn is the whole base
abbrev pub FrontEnds : Type 0
FrontEnds =
    (f : Circuit) (goal : Goal) (p : Circuit) (earlier : List (List ℕ)) (target : List ℕ) (paid turns : List (List ℕ)) (place : ℕ) (witnesses : List Witness) →
    length turns ≤ place → IsFront f goal p earlier target paid turns place witnesses →
    IsShownBase f goal p earlier target paid turns witnesses

-- each signal has one turn
abbrev pub TurnsAreDistinct : Type 0
TurnsAreDistinct =
    (f : Circuit) (w : Weights) (input_weight : ℕ) (earlier paid turns : List (List ℕ)) →
    AreTurns f w input_weight earlier paid turns → AllPairs (λ a b. a ≢ b) turns
