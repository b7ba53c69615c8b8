-- Lists of gates over the numbers of nets: when they fit, what drives a net, and which gate reads which.
use Rattle.std.specs.Prelude.{◌≡◌, ◌≢◌, ℕ, ◌<◌, List, length, slice_get, Some, All, AllPairs, Contains}
use Rattle.eco_gates.specs.declared.gate.Term.{Term}
use Rattle.eco_gates.specs.declared.gate.Term.TheVariants.{Zero, One, Net}
use Rattle.eco_gates.specs.GateValue.{GateValue}
use Rattle.eco_meaning.specs.Gates.{FitsKind}

-- a constant, or a net whose number is below this one
abbrev pub IsTermBelow : ℕ → Term → Type 0
IsTermBelow nets Zero = Unit {0}
IsTermBelow nets One = Unit {0}
IsTermBelow nets (Net net) = net.0 < nets

-- the gate drives and reads nets below this number, and has as many inputs as its kind takes
pub record IsGateWithin (nets : ℕ) (g : GateValue) : Type 0 where
  pub out : g.out.0 < nets
  pub ins : All (IsTermBelow nets) g.ins
  pub kind : FitsKind g.kind (length g.ins)

-- all gates drive and read nets below this number
abbrev pub IsWithin : ℕ → List GateValue → Type 0
IsWithin nets gates = All (IsGateWithin nets) gates

-- no two gates drive one net
abbrev pub IsOnceDriven : List GateValue → Type 0
IsOnceDriven gates = AllPairs (λ g h. g.out.0 ≢ h.out.0) gates

-- no gate drives the net
abbrev pub IsUndriven : List GateValue → ℕ → Type 0
IsUndriven gates net = All (λ g. g.out.0 ≢ net) gates

-- gate number j reads the output of gate number i
pub record ReadsOut (gates : List GateValue) (i j : ℕ) : Type 0 where
  pub driver : GateValue
  pub reader : GateValue
  pub driver_at : slice_get gates i ≡ Some driver
  pub reader_at : slice_get gates j ≡ Some reader
  pub reads : Contains reader.ins (Net driver.out)
