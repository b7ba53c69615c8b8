-- The nets so far have the first names.
use Rattle.std.proofs.Common.{◌≡◌, take}
use Rattle.eco_meaning.specs.Circuit.{names}
use Rattle.eco_netlist.specs.Netlists.{AreNets, names_at}
use Rattle.eco_desk.proofs.nets.every_net.Given as goal

abbrev pub invariant-loop-net : goal.invariant-loop-net
invariant-loop-net l = AreNets (names l.netlist) l.nets.items × (names_at (names l.netlist) l.nets.items ≡ take l.net (names l.netlist))
