-- How the parts of a netlist stand for a circuit.
use Rattle.std.specs.Prelude.{◌≡◌, length, map, drop}
use Rattle.eco_meaning.specs.Circuit.{Circuit, names, AreTargets}
use Rattle.eco_gates.specs.Gates.{IsWithin, IsOnceDriven}
use Rattle.eco_gates.specs.Ordering.{IsOrder}
use Rattle.eco_netlist.specs.declared.netlist.Netlist.TheInside.{Inside}
use Rattle.eco_netlist.specs.Netlists.{names_at, named_gate, AreNets, IsChecked}

-- the circuit: ports, inputs, outputs and gates by the names of their nets; the nets behind the ports are the wires
abbrev pub circuit_of : Inside → Circuit
circuit_of n = record {
  title = n.title;
  ports = names_at n.names.keys n.ports.items;
  inputs = names_at n.names.keys n.inputs.items;
  outputs = names_at n.names.keys n.outputs.items;
  wires = drop (length n.ports.items) n.names.keys;
  gates = map (named_gate n.names.keys) n.gates.items;
}

-- what a netlist keeps: its numbers are numbers of nets, the order is one in which its gates can be evaluated, its
-- targets are the circuit's, and the circuit is checked
pub record IsNumbered (n : Inside) : Type 0 where
  pub numbers : names (circuit_of n) ≡ n.names.keys
  pub port_nets : AreNets n.names.keys n.ports.items
  pub input_nets : AreNets n.names.keys n.inputs.items
  pub output_nets : AreNets n.names.keys n.outputs.items
  pub target_nets : AreNets n.names.keys n.targets.items
  pub gate_nets : IsWithin (length n.names.keys) n.gates.items
  pub once : IsOnceDriven n.gates.items
  pub ordered : IsOrder n.gates.items n.order.items
  pub free : AreTargets (circuit_of n) (names_at n.names.keys n.targets.items)
  pub checked : IsChecked (circuit_of n)
