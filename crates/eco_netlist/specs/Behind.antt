-- Behind which targets nets lie.
use Rattle.std.specs.Prelude.{◌≡◌, ◌↔◌, ℕ, ◌≤◌, List, length, take, Some, slice_get}
use Rattle.eco_meaning.specs.Circuit.{Circuit, names, AreTargets}
use Rattle.eco_meaning.specs.Patch.{IsBehindOnly}

-- For each net of f how many of the first targets are needed to have all of those behind which it lies: the number is at
-- most k exactly where the net lies in the fan-out of none but the first k targets.
pub record AreLastTargets (f : Circuit) (lasts : List ℕ) : Type 0 where
  pub count : length lasts ≡ length (names f)
  pub behind : (targets : List (List ℕ)) → AreTargets f targets →
      (net : ℕ) (name : List ℕ) → slice_get (names f) net ≡ Some name →
      (last : ℕ) → slice_get lasts net ≡ Some last →
      (k : ℕ) → (last ≤ k) ↔ IsBehindOnly f (take k targets) name
