use Rattle.std.proofs.Common.{◌≡◌, take}
use Rattle.eco_netlist.specs.Netlists.{names_at}
use Rattle.eco_netlist.proofs.names.chosen.Given as goal

abbrev pub invariant-loop-net : goal.invariant-loop-net
invariant-loop-net l = l.chosen.keys ≡ names_at l.names.keys (take l.net-index l.nets)
