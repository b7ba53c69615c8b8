-- What is said of nets that are turned, by their numbers.
use Rattle.std.specs.Prelude.{◌≡◌, ◌⊎◌, ℕ, ◌+◌, Bool, true, false, List, [], ◌∷◌, length, All, Contains, if◌then◌else◌}
use Rattle.eco_meaning.specs.Circuit.{Circuit, names}
use Rattle.eco_gates.specs.declared.gate.NetId.{NetId}
use Rattle.eco_netlist.specs.Netlists.{name_at}
use Rattle.eco_choices.specs.Turned.{IsMendedBit}

-- the net is one of these, and its mended bit is this one
pub record HasMendedBit (f : Circuit) (x wanted : List Bool) (nets : List NetId) (bit : Bool) (net : NetId) : Type 0 where
  pub among : Contains nets net
  pub mends : IsMendedBit f x wanted (name_at (names f) net.0) bit

-- the nets in two lists: left are those whose mended bits are 1, and taken those whose bits are 0
pub record AreSifted (f : Circuit) (x wanted : List Bool) (nets left taken : List NetId) : Type 0 where
  pub all : (net : NetId) → Contains nets net → Contains left net ⊎ Contains taken net
  pub mending : All (HasMendedBit f x wanted nets true) left
  pub others : All (HasMendedBit f x wanted nets false) taken
  pub count : length left + length taken ≡ length nets

-- those of the nets whose places pass the test, the first of which has this place
unfoldable pub chosen : (ℕ → Bool) → ℕ → List NetId → List NetId
chosen passes place [] = []
chosen passes place (net ∷ nets) = if passes place then net ∷ chosen passes (place + 1) nets else chosen passes (place + 1) nets
