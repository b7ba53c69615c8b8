use Rattle.std.proofs.Common.{◌≡◌, take}
use Rattle.std.specs.Prelude.{fold, filter}
use Rattle.eco_netlist.specs.Netlists.{name_at}
use Rattle.eco_netlist.specs.Numbering.{with_net, is_live}
use Rattle.eco_netlist.specs.Tallies.{tally_at}
use Rattle.eco_netlist.proofs.numbering.add_wires.Given as goal

abbrev pub invariant-loop-wire : goal.invariant-loop-wire
invariant-loop-wire l = record {
  names : l.numbering.names ≡ l.fn.numbering.names;
  added : l.numbering.nets ≡ fold with_net l.fn.numbering.nets
      (filter (λ wire. is_live l.rule (name_at l.names wire.0) (tally_at l.tallies wire.0)) (take l.wire-index l.wires));
}
