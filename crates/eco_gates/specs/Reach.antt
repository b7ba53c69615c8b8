-- The fan-out of nets, by their numbers.
use Rattle.std.specs.Prelude.{◌≡◌, ℕ, ◌<◌, Bool, true, false, List, length, slice_get, slice_index_or, Some, Contains}
use Rattle.eco_gates.specs.declared.gate.NetId.{NetId}
use Rattle.eco_gates.specs.declared.gate.Term.{Term}
use Rattle.eco_gates.specs.declared.gate.Term.TheVariants.{Zero, One, Net}
use Rattle.eco_gates.specs.GateValue.{GateValue}

-- the fan-out of nets: they themselves, and the output of each gate that reads a net of it
pub data FanNet (gates : List GateValue) (from : List NetId) : NetId → Type 0 where
  itself : (net : NetId) → Contains from net → FanNet gates from net
  next : (g : GateValue) → Contains gates g → (net : NetId) → Contains g.ins (Net net) → FanNet gates from net → FanNet gates from g.out

-- whether the term is a net with a mark
abbrev pub is_marked : List Bool → Term → Bool
is_marked marks Zero = false
is_marked marks One = false
is_marked marks (Net net) = slice_index_or marks net.0 false

-- one bit for each net: the first nets of the list are marked, and no others than nets of the list
pub record AreMarked (nets : ℕ) (from : List NetId) (count : ℕ) (marks : List Bool) : Type 0 where
  pub len : length marks ≡ nets
  pub sound : (net : NetId) → slice_get marks net.0 ≡ Some true → Contains from net
  pub complete : (k : ℕ) (net : NetId) → k < count → slice_get from k ≡ Some net → slice_get marks net.0 ≡ Some true
