use Rattle.std.proofs.Common.{take}
use Rattle.eco_netlist.specs.Numbering.{ArePlaced}
use Rattle.eco_netlist.proofs.placing.places_of.Given as goal

abbrev pub invariant-loop-net : goal.invariant-loop-net
invariant-loop-net l = ArePlaced l.numbering.nets (take l.net-index l.list) l.places.items
