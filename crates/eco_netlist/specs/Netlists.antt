-- What holds of every checked netlist, and how its numbers stand for names.
use Rattle.std.specs.Prelude.{◌≡◌, ℕ, ◌<◌, Bool, false, not, List, [], ◌∷◌, filter, map, length, slice_get, Some, IsTrue, All, Contains, if◌then◌else◌}
use Rattle.std.specs.List.{IsDistinct, slice_index_or}
use Rattle.std.specs.Str.{bytes_eq}
use Rattle.eco_meaning.specs.declared.name.Operand.{Operand}
use Rattle.eco_meaning.specs.declared.name.Operand.TheVariants as operand
use Rattle.eco_meaning.specs.Gates.{FitsKind}
use Rattle.eco_meaning.specs.Names.{has, is_target_text}
use Rattle.eco_meaning.specs.Circuit.{Circuit, NamedGate, Values, names, Reads, IsDriven, IsSignal, IsLoopFree}
use Rattle.eco_gates.specs.declared.gate.NetId.{NetId}
use Rattle.eco_gates.specs.declared.gate.Term.{Term}
use Rattle.eco_gates.specs.declared.gate.Term.TheVariants.{Zero, One, Net}
use Rattle.eco_gates.specs.GateValue.{GateValue}
use Rattle.eco_gates.specs.Gates.{IsWithin}

-- what holds of every checked netlist
pub record IsChecked (n : Circuit) : Type 0 where
  pub distinct : IsDistinct bytes_eq (names n)
  pub inputs : n.inputs ≡ filter (has n.inputs) n.ports
  pub outputs : n.outputs ≡ filter (has n.outputs) n.ports
  pub directed : (name : List ℕ) → Contains n.ports name → has n.inputs name ≡ not (has n.outputs name)
  pub driven_nets : (g : NamedGate) → Contains n.gates g → Contains (names n) g.out
  pub read_nets : (g : NamedGate) → Contains n.gates g → (name : List ℕ) → Reads g name → Contains (names n) name
  pub arities : (g : NamedGate) → Contains n.gates g → FitsKind g.kind (length g.terms)
  pub driven_once : IsDistinct bytes_eq (map (λ g. g.out) n.gates)
  pub inputs_free : (name : List ℕ) → Contains n.inputs name → IsDriven n name → ⊥
  pub undriven : (name : List ℕ) → Contains (names n) name → (IsSignal n name → ⊥) → IsTrue (is_target_text name)
  pub loop_free : IsLoopFree n

-- the name of a net
abbrev pub name_at : List (List ℕ) → ℕ → List ℕ
name_at list net = slice_index_or list net []

-- the names of nets
abbrev pub names_at : List (List ℕ) → List NetId → List (List ℕ)
names_at list nets = map (λ net. name_at list net.0) nets

-- a gate's input, and a gate, by the names of the nets
abbrev pub named_term : List (List ℕ) → Term → Operand
named_term list Zero = operand.Zero
named_term list One = operand.One
named_term list (Net net) = operand.Named (name_at list net.0)

abbrev pub named_gate : List (List ℕ) → GateValue → NamedGate
named_gate list g = record {
  kind = g.kind;
  out = name_at list g.out.0;
  terms = map (named_term list) g.ins;
}

-- these are the netlist's gates, over the numbers of its nets
pub record AreGates (n : Circuit) (gates : List GateValue) : Type 0 where
  pub named : map (named_gate (names n)) gates ≡ n.gates
  pub within : IsWithin (length (names n)) gates

-- the bit that stands at a name's place
abbrev pub bit_of : List (List ℕ) → List Bool → Values
bit_of [] bits name = false
bit_of (first ∷ list) [] name = false
bit_of (first ∷ list) (bit ∷ bits) name = if bytes_eq name first then bit else bit_of list bits name

-- all these nets have names in the list
abbrev pub AreNets : List (List ℕ) → List NetId → Type 0
AreNets list nets = All (λ net. net.0 < length list) nets

-- the map gives each net that no gate drives the bit that stands at the net's place
abbrev pub KeepsUndriven : Circuit → Values → List Bool → Type 0
KeepsUndriven n v bits =
    (k : ℕ) (name : List ℕ) → slice_get (names n) k ≡ Some name → (IsDriven n name → ⊥) → slice_get bits k ≡ Some (v name)
