-- What is meant by: an input and the patches of the earlier targets determine what lies behind no later target, and by: what
-- they leave are the consistent maps of the splice.
use Rattle.std.specs.Prelude.{◌≡◌, ◌↔◌, ℕ, Bool, List, ◌++◌, length, map, Contains}
use Rattle.eco_meaning.specs.Circuit.{Circuit, Values, names, IsConsistent, AgreeOn, IsTarget}
use Rattle.eco_meaning.specs.Patch.{Fits, IsBehindOnly, splice_of}
use Rattle.eco_meaning.specs.Choice.{IsReached}
use Rattle.eco_laws.specs.Sound.{IsSound}

-- the patch p may stand in f, and its first targets are these
pub record IsPatchOf (f p : Circuit) (earlier : List (List ℕ)) : Type 0 where
  pub sound : IsSound f
  pub patch : IsSound p
  pub later : List (List ℕ)
  pub fits : Fits f p later
  pub behind : List (List ℕ)
  pub first : p.outputs ≡ earlier ++ behind

-- the maps that are reached at one input agree on the earlier targets, and on the nets behind no others
abbrev pub ReachedMapsAgree : Type 0
ReachedMapsAgree =
    (f p : Circuit) (earlier : List (List ℕ)) → IsPatchOf f p earlier →
    (x : List Bool) (v u : Values) → IsReached f p earlier x v → IsReached f p earlier x u →
    AgreeOn earlier v u × ((name : List ℕ) → Contains (names f) name → IsBehindOnly f earlier name → v name ≡ u name)

-- at each input a map is reached, whatever the other targets have
abbrev pub MapsAreReached : Type 0
MapsAreReached =
    (f p : Circuit) (earlier : List (List ℕ)) → IsPatchOf f p earlier →
    (x : List Bool) (bits : Values) → length x ≡ length f.inputs →
    (v : Values) × IsReached f p earlier x v × ((target : List ℕ) → IsTarget f target → (Contains earlier target → ⊥) → v target ≡ bits target)

-- the splice has a consistent map with the inputs x that agrees with v on the nets of f
pub record IsOfSplice (f p : Circuit) (x : List Bool) (v : Values) : Type 0 where
  pub values : Values
  pub consistent : IsConsistent (splice_of f p) values
  pub input : map values f.inputs ≡ x
  pub agrees : AgreeOn (names f) v values

-- with the functions of all of the patch's targets, the maps that are reached are the consistent maps of the splice
abbrev pub ReachedMapsAreTheSplices : Type 0
ReachedMapsAreTheSplices =
    (f p : Circuit) (later : List (List ℕ)) → IsSound f → IsSound p → Fits f p later →
    (x : List Bool) (v : Values) → IsReached f p p.outputs x v ↔ IsOfSplice f p x v
