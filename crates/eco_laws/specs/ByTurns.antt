-- The greedy choice as it is made: signal by signal in the order of turns, each left out where a test of sets of signals passes
-- what there is without it.
use Rattle.std.specs.Prelude.{◌≡◌, ◌≢◌, ◌⊎◌, ℕ, List, [], ◌∷◌, ◌++◌, AllPairs, Contains}
use Rattle.eco_meaning.specs.Circuit.{Circuit}
use Rattle.eco_meaning.specs.Meaning.{Goal}
use Rattle.eco_meaning.specs.Choice.{Suffices, IsGreedy}

-- a set of signals is enough or not
abbrev pub SetTest : Type 1
SetTest = (List ℕ → Type 0) → Type 0

-- what is kept of a list beside the signals that there are before it: its first signal is left out where those before it and
-- those behind it are enough, and else it is kept and joins those before the rest
unfoldable pub IsKeptByTurns : SetTest → List (List ℕ) → List (List ℕ) → List (List ℕ) → Type 0
IsKeptByTurns IsEnough before [] kept = kept ≡ []
IsKeptByTurns IsEnough before (name ∷ behind) kept =
    (IsEnough (Contains (before ++ behind)) × IsKeptByTurns IsEnough before behind kept)
    ⊎ ((rest : List (List ℕ)) × (kept ≡ name ∷ rest) × (IsEnough (Contains (before ++ behind)) → ⊥)
    × IsKeptByTurns IsEnough (before ++ name ∷ []) behind rest)

-- what is kept by turns is the greedy choice
abbrev pub KeptByTurnsIsGreedy : Type 0
KeptByTurnsIsGreedy =
    (f : Circuit) (goal : Goal) (p : Circuit) (earlier : List (List ℕ)) (target : List ℕ) (paid turns kept : List (List ℕ)) →
    AllPairs (λ a b. a ≢ b) turns → IsKeptByTurns (Suffices f goal p earlier target) paid turns kept →
    IsGreedy f goal p earlier target paid turns kept
