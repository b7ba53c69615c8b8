use Rattle.std.proofs.Common.{◌≡◌, take}
use Rattle.std.specs.Prelude.{fold}
use Rattle.std.specs.List.{flat_map}
use Rattle.eco_netlist.specs.Numbering.{with_net, term_nets}
use Rattle.eco_netlist.proofs.numbering.add_terms.Given as goal

abbrev pub invariant-loop-term : goal.invariant-loop-term
invariant-loop-term l = record {
  names : l.numbering.names ≡ l.fn.numbering.names;
  added : l.numbering.nets ≡ fold with_net l.fn.numbering.nets (flat_map term_nets (take l.term-index l.terms));
}
