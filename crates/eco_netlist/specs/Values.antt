-- The values of all nets at an input.
use Rattle.std.specs.Prelude.{◌≡◌, ◌≢◌, ℕ, ◌<◌, Bool, false, List, length, map, Some, slice_get}
use Rattle.eco_meaning.specs.Circuit.{Circuit, names, IsConsistent, IsTarget}
use Rattle.eco_gates.specs.declared.gate.NetId.{NetId}
use Rattle.eco_netlist.specs.Netlists.{bit_of}

-- one bit for each net: those of a map that is consistent with the netlist, has the input, and is 0 at targets
pub record AreValuesAt (n : Circuit) (x bits : List Bool) : Type 0 where
  pub valued : map (bit_of (names n) bits) (names n) ≡ bits
  pub consistent : IsConsistent n (bit_of (names n) bits)
  pub input : map (bit_of (names n) bits) n.inputs ≡ x
  pub targets : (name : List ℕ) → IsTarget n name → bit_of (names n) bits name ≡ false

-- one bit for each net: at those of the first inputs the bits of the input, and 0 at the others
pub record HasInputBits (nets : ℕ) (inputs : List NetId) (input : List Bool) (count : ℕ) (bits : List Bool) : Type 0 where
  pub len : length bits ≡ nets
  pub here : (place : ℕ) (net : NetId) → place < count → slice_get inputs place ≡ Some net → slice_get bits net.0 ≡ slice_get input place
  pub others : (k : ℕ) → k < nets → ((place : ℕ) (net : NetId) → place < count → slice_get inputs place ≡ Some net → net.0 ≢ k) → slice_get bits k ≡ Some false
