-- Declarations over the numbers of names, and what they declare.
use Rattle.std.specs.Prelude.{◌≡◌, ℕ, List, ◌++◌, map, length}
use Rattle.eco_gates.specs.Gates.{IsWithin}
use Rattle.eco_netlist.specs.declared.draft.Declarations.{Declarations}
use Rattle.eco_netlist.specs.Draft.{Declared}
use Rattle.eco_netlist.specs.Netlists.{names_at, named_gate, AreNets}

-- the second list is the first one with perhaps more behind it
abbrev pub Extends : List (List ℕ) → List (List ℕ) → Type 0
Extends list longer = (more : List (List ℕ)) × (longer ≡ list ++ more)

-- what is declared, by name
abbrev pub declared_of : Declarations → Declared
declared_of x = record {
  title = x.title;
  header = names_at x.names.keys x.header.items;
  inputs = names_at x.names.keys x.inputs.items;
  outputs = names_at x.names.keys x.outputs.items;
  wires = names_at x.names.keys x.wires.items;
  gates = map (named_gate x.names.keys) x.gates.items;
}

-- all numbers are those of names, and each gate has as many inputs as its kind takes
pub record IsDrafted (x : Declarations) : Type 0 where
  pub header : AreNets x.names.keys x.header.items
  pub inputs : AreNets x.names.keys x.inputs.items
  pub outputs : AreNets x.names.keys x.outputs.items
  pub wires : AreNets x.names.keys x.wires.items
  pub gates : IsWithin (length x.names.keys) x.gates.items
