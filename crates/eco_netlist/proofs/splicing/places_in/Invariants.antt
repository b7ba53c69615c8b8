use Rattle.std.proofs.Common.{◌≡◌, take}
use Rattle.eco_netlist.specs.Netlists.{names_at, AreNets}
use Rattle.eco_netlist.proofs.splicing.places_in.Given as goal

abbrev pub invariant-loop-name : goal.invariant-loop-name
invariant-loop-name l = record {
  named : names_at l.names.keys l.places.items ≡ take l.name-index l.list;
  within : AreNets l.names.keys l.places.items;
}
