-- Which targets lie before a net, and which outputs behind it, by their places.
use Rattle.std.specs.Prelude.{◌≡◌, ◌⊎◌, ℕ, ◌+◌, ◌<◌, ◌≤◌, List, length, Some, slice_get}
use Rattle.eco_meaning.specs.Circuit.{Circuit, names, Fan}
use Rattle.eco_gates.specs.declared.gate.NetId.{NetId}
use Rattle.eco_gates.specs.Spread.{number_at}

-- a number for each net: for the first nets of the list their places in it, counted from `first`, and `other` for all others
pub record ArePlaces (nets : ℕ) (listed : List NetId) (count first other : ℕ) (numbers : List ℕ) : Type 0 where
  pub len : length numbers ≡ nets
  pub here : (place : ℕ) (net : NetId) → place < count → slice_get listed place ≡ Some net → number_at numbers net ≡ first + place
  pub some : (net : NetId) → net.0 < nets → (number_at numbers net ≡ other)
      ⊎ ((place : ℕ) × (slice_get listed place ≡ Some net) × (number_at numbers net ≡ first + place))

-- for each net of f the number of targets up to the last one in whose fan-out it lies, or 0 where it lies in none
pub record AreLasts (f : Circuit) (targets : List (List ℕ)) (lasts : List ℕ) : Type 0 where
  pub count : length lasts ≡ length (names f)
  pub reached : (net last : ℕ) (name : List ℕ) → slice_get (names f) net ≡ Some name → slice_get lasts net ≡ Some last → 0 < last →
      (place : ℕ) × (target : List ℕ) × (last ≡ place + 1) × (slice_get targets place ≡ Some target) × Fan f target name
  pub greatest : (net last : ℕ) (name : List ℕ) → slice_get (names f) net ≡ Some name → slice_get lasts net ≡ Some last →
      (place : ℕ) (target : List ℕ) → slice_get targets place ≡ Some target → Fan f target name → place < last

-- for each net of p the place of the first output that lies in its fan-out, or the number of outputs where none does
pub record AreFirstOutputs (p : Circuit) (firsts : List ℕ) : Type 0 where
  pub count : length firsts ≡ length (names p)
  pub reached : (net first : ℕ) (name : List ℕ) → slice_get (names p) net ≡ Some name → slice_get firsts net ≡ Some first →
      first < length p.outputs → (output : List ℕ) × (slice_get p.outputs first ≡ Some output) × Fan p name output
  pub least : (net first : ℕ) (name : List ℕ) → slice_get (names p) net ≡ Some name → slice_get firsts net ≡ Some first →
      (place : ℕ) (output : List ℕ) → slice_get p.outputs place ≡ Some output → Fan p name output → first ≤ place
