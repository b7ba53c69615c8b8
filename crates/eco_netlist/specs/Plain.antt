-- Declarations that spell out a netlist as it is.
use Rattle.eco_meaning.specs.Circuit.{Circuit}
use Rattle.eco_netlist.specs.Draft.{Declared}

-- the netlist with the declared ports, inputs, outputs, wires and gates as they stand
abbrev pub as_declared : Declared → Circuit
as_declared d = record {
  title = d.title;
  ports = d.header;
  inputs = d.inputs;
  outputs = d.outputs;
  wires = d.wires;
  gates = d.gates;
}
