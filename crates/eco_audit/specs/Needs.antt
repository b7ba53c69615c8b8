-- What decides whether a reported signal is needed: at each of its inputs one map that is reached, and whether bits go on from the
-- earlier targets' values and the other bit.
use Rattle.std.specs.Prelude.{◌≡◌, ◌↔◌, ℕ, Bool, not, List, [], ◌∷◌, ◌++◌, length, map, All}
use Rattle.eco_meaning.specs.Circuit.{Circuit, Values, IsSignal}
use Rattle.eco_meaning.specs.Meaning.{Goal}
use Rattle.eco_meaning.specs.Patch.{IsBehindOnly}
use Rattle.eco_meaning.specs.Choice.{IsReached, IsForced, AgreeAt, IsOther}
use Rattle.eco_laws.specs.Reached.{IsPatchOf}
use Rattle.eco_laws.specs.Asked.{IsFixed, IsUnfixed}

-- an input forces the bit where no bits go on from the earlier targets' values and the other bit
abbrev pub UnfixedIsForced : Type 0
UnfixedIsForced =
    (f : Circuit) (goal : Goal) (p : Circuit) (earlier : List (List ℕ)) (target : List ℕ) (later : List (List ℕ)) (x : List Bool) (v : Values) (bit : Bool) →
    IsPatchOf f p earlier → length x ≡ length f.inputs → IsReached f p earlier x v →
    IsUnfixed f goal (earlier ++ target ∷ later) (map v earlier ++ not bit ∷ []) x → IsForced f goal p earlier target x bit

-- it doesn't where some do
abbrev pub FixedIsUnforced : Type 0
FixedIsUnforced =
    (f : Circuit) (goal : Goal) (p : Circuit) (earlier : List (List ℕ)) (target : List ℕ) (later : List (List ℕ)) (x bits : List Bool) (v : Values) (bit : Bool) →
    IsPatchOf f p earlier → IsReached f p earlier x v →
    IsFixed f goal (earlier ++ target ∷ later) (map v earlier ++ not bit ∷ []) x bits → IsForced f goal p earlier target x bit → ⊥

-- two inputs agree on the others of some signals, which lie behind earlier targets alone, where two maps that are reached do
abbrev pub AlikeByMaps : Type 0
AlikeByMaps =
    (f p : Circuit) (earlier signals : List (List ℕ)) (name : List ℕ) (x y : List Bool) (v u : Values) →
    IsPatchOf f p earlier → All (IsSignal f) signals → All (IsBehindOnly f earlier) signals →
    IsReached f p earlier x v → IsReached f p earlier y u →
    AgreeAt f p earlier (IsOther signals name) x y ↔ ((other : List ℕ) → IsOther signals name other → v other ≡ u other)
