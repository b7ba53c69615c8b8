use Rattle.eco_netlist.proofs.NameSets.{absent_from_has}
use Rattle.eco_netlist.proofs.splicing.place_of.Goals as goal

pub unreachable-requires : goal.unreachable-requires
unreachable-requires c = absent_from_has c.args.names.now.keys c.args.name.now c.in-None.ensures c.requires
