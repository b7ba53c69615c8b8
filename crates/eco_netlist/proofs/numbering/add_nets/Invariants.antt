use Rattle.std.proofs.Common.{◌≡◌, take}
use Rattle.std.specs.Prelude.{fold}
use Rattle.eco_netlist.specs.Numbering.{with_net}
use Rattle.eco_netlist.proofs.numbering.add_nets.Given as goal

abbrev pub invariant-loop-net : goal.invariant-loop-net
invariant-loop-net l = record {
  names : l.numbering.names ≡ l.fn.numbering.names;
  added : l.numbering.nets ≡ fold with_net l.fn.numbering.nets (take l.net-index l.list);
}
