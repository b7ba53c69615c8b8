use Rattle.std.proofs.Common.{◌≡◌, ◌++◌, drop}
use Rattle.std.specs.List.{flat_map, list_all}
use Rattle.eco_meaning.specs.Names.{is_name}
use Rattle.eco_meaning.specs.Circuit.{names}
use Rattle.eco_vwrite.specs.Written.{wire_line}
use Rattle.eco_vwrite.proofs.lines.push_wires.Given as goal

abbrev pub invariant-loop-number : goal.invariant-loop-number
invariant-loop-number l = record {
  text : l.text.items ++ flat_map wire_line (drop l.number (names l.netlist)) ≡ l.initial.text.items ++ flat_map wire_line l.netlist.wires;
  named : list_all is_name l.netlist.wires ≡ list_all is_name (drop l.number (names l.netlist));
}
