-- What is meant by: a net depends on the inputs and on the undriven nets behind which it lies.
use Rattle.std.specs.Prelude.{◌≡◌, ℕ, List, Contains}
use Rattle.eco_meaning.specs.Circuit.{Circuit, Values, names, IsConsistent, AgreeOn, IsDriven, Fan}
use Rattle.eco_meaning.specs.Patch.{IsBehindOnly}
use Rattle.eco_laws.specs.Sound.{IsSound}

-- a net that no gate drives
pub record IsSource (n : Circuit) (name : List ℕ) : Type 0 where
  pub net : Contains (names n) name
  pub free : IsDriven n name → ⊥

-- a net has one value where the undriven nets behind which it lies have the same values
abbrev pub DependsOnSources : Type 0
DependsOnSources =
    (n : Circuit) (v u : Values) → IsSound n → IsConsistent n v → IsConsistent n u →
    (name : List ℕ) → Contains (names n) name →
    ((source : List ℕ) → IsSource n source → Fan n source name → v source ≡ u source) → v name ≡ u name

-- a net has one value where the inputs and the targets behind which it lies have the same values
abbrev pub DependsOnTargets : Type 0
DependsOnTargets =
    (n : Circuit) (v u : Values) (targets : List (List ℕ)) → IsSound n → IsConsistent n v → IsConsistent n u →
    AgreeOn n.inputs v u → AgreeOn targets v u →
    (name : List ℕ) → Contains (names n) name → IsBehindOnly n targets name → v name ≡ u name

-- whatever bits the nets have that no gate drives, they go on to a consistent map
abbrev pub CanBeFilled : Type 0
CanBeFilled =
    (n : Circuit) (bits : Values) → IsSound n →
    (v : Values) × IsConsistent n v × ((name : List ℕ) → (IsDriven n name → ⊥) → v name ≡ bits name)
