use Rattle.std.proofs.Common.{◌≡◌, ◌≤◌, ◌++◌, take, drop}
use Rattle.std.specs.List.{filter, flat_map, list_all}
use Rattle.eco_meaning.specs.Names.{has, is_name}
use Rattle.eco_meaning.specs.Circuit.{names}
use Rattle.eco_netlist.specs.Netlists.{name_at, names_at}
use Rattle.eco_vwrite.specs.Written.{port_line}
use Rattle.eco_vwrite.proofs.lines.push_ports.Given as goal

abbrev pub invariant-loop-port : goal.invariant-loop-port
invariant-loop-port l = record {
  text : l.text.items ≡ l.initial.text.items ++ flat_map (λ net. port_line l.netlist (name_at (names l.netlist) net.0)) (take l.port-index l.ports);
  turn : names_at (names l.netlist) (drop l.next l.inputs) ≡ filter (has l.netlist.inputs) (names_at (names l.netlist) (drop l.port-index l.ports));
  few : l.next ≤ l.port-index;
  named : list_all is_name l.netlist.ports ≡ list_all is_name (names_at (names l.netlist) (drop l.port-index l.ports));
}
