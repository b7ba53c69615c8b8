-- The parts of a netlist while it is built.
use Rattle.std.specs.Prelude.{◌≡◌, ℕ, List, [], ◌++◌, map, length, slice_get, All}
use Rattle.std.specs.List.{IsDistinct}
use Rattle.std.specs.Option.{option_map_or}
use Rattle.std.specs.Str.{bytes_eq}
use Rattle.eco_meaning.specs.Circuit.{Circuit, names, AreTargets}
use Rattle.eco_gates.specs.GateValue.{GateValue}
use Rattle.eco_gates.specs.Gates.{IsWithin, IsOnceDriven}
use Rattle.eco_netlist.specs.declared.draft.Declarations.{Declarations}
use Rattle.eco_netlist.specs.declared.making.Lists.{Lists}
use Rattle.eco_netlist.specs.declared.making.Parts.{Parts}
use Rattle.eco_netlist.specs.declared.draft.TargetRule.{TargetRule}
use Rattle.eco_netlist.specs.Draft.{Declared, FitKinds, nets_of, made}
use Rattle.eco_netlist.specs.Drafted.{declared_of}
use Rattle.eco_netlist.specs.Refusals.{IsWellDeclared}
use Rattle.eco_netlist.specs.Netlists.{name_at, names_at, named_gate, AreNets, AreGates}
use Rattle.eco_netlist.specs.Numbering.{Chosen, HasNets, gate_nets}
use Rattle.eco_netlist.specs.Tallies.{tally_of, is_free}
use Rattle.eco_netlist.specs.Targets.{AreFree}

-- the names of the nets and the gates by number are those of declarations without an error but perhaps a loop
pub record AreParts (rule : TargetRule) (d : Declared) (list : List (List ℕ)) (gates : List GateValue) : Type 0 where
  pub sound : IsWellDeclared rule d
  pub fitting : FitKinds d.gates
  pub nets : list ≡ nets_of rule d
  pub distinct : IsDistinct bytes_eq list
  pub named : map (named_gate list) gates ≡ d.gates
  pub within : IsWithin (length list) gates
  pub once : IsOnceDriven gates

-- the name of the net that gate number i drives
abbrev pub output_name : List (List ℕ) → List GateValue → ℕ → List ℕ
output_name list gates i = option_map_or (λ g. name_at list g.out.0) (slice_get gates i) []

-- the second list is the first one begun at another place
abbrev pub IsTurned : List (List ℕ) → List (List ℕ) → Type 0
IsTurned list turned = (front back : List (List ℕ)) × (list ≡ front ++ back) × (turned ≡ back ++ front)

-- the nets of the declarations, in their order
pub record IsNumberingOf (rule : TargetRule) (x : Declarations) (n : Chosen) : Type 0 where
  pub sound : IsWellDeclared rule (declared_of x)
  pub distinct : IsDistinct bytes_eq x.names.keys
  pub count : n.names ≡ length x.names.keys
  pub within : AreNets x.names.keys n.nets
  pub nets : names_at x.names.keys n.nets ≡ nets_of rule (declared_of x)
  pub apart : IsDistinct bytes_eq (names_at x.names.keys n.nets)
  pub ports : HasNets n.nets x.header.items
  pub gates : All (λ g. HasNets n.nets (gate_nets g)) x.gates.items

-- the ports, inputs, outputs and targets of the declarations, by their places among nets of these names
pub record AreLists (rule : TargetRule) (x : Declarations) (list : List (List ℕ)) (lists : Lists) : Type 0 where
  pub ports : names_at list lists.ports.items ≡ (made rule (declared_of x)).ports
  pub port_nets : AreNets list lists.ports.items
  pub inputs : names_at list lists.inputs.items ≡ (made rule (declared_of x)).inputs
  pub input_nets : AreNets list lists.inputs.items
  pub outputs : names_at list lists.outputs.items ≡ (made rule (declared_of x)).outputs
  pub output_nets : AreNets list lists.outputs.items
  pub targets : AreFree (λ name. is_free rule name (tally_of (declared_of x) name)) list lists.targets.items

-- these are the circuit's name, its nets' names and its gates
pub record HasParts (n : Circuit) (parts : Parts) : Type 0 where
  pub title : parts.title ≡ n.title
  pub nets : parts.names.keys ≡ names n
  pub gates : AreGates n parts.gates.items

-- these are the circuit's ports, inputs, outputs and targets, by their places among its nets
pub record HasLists (n : Circuit) (lists : Lists) : Type 0 where
  pub ports : names_at (names n) lists.ports.items ≡ n.ports
  pub port_nets : AreNets (names n) lists.ports.items
  pub inputs : names_at (names n) lists.inputs.items ≡ n.inputs
  pub input_nets : AreNets (names n) lists.inputs.items
  pub outputs : names_at (names n) lists.outputs.items ≡ n.outputs
  pub output_nets : AreNets (names n) lists.outputs.items
  pub targets : AreTargets n (names_at (names n) lists.targets.items)
  pub target_nets : AreNets (names n) lists.targets.items
