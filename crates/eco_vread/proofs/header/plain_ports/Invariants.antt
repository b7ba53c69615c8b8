use Rattle.std.proofs.Common.{◌≡◌, length, map, codes}
use Rattle.eco_vread.specs.Trees.{left, port_of}
use Rattle.eco_vread.specs.Fronts.{list_at}
use Rattle.eco_vread.specs.Parse.{plain_port_at}
use Rattle.eco_vread.proofs.Repeats.{ahead}
use Rattle.eco_vread.proofs.header.plain_ports.Given as goal

-- what is read, and then what the rest of the list is, are the list
abbrev pub invariant-loop-ports : goal.invariant-loop-ports
invariant-loop-ports l =
    ahead (map port_of l.ports.items) (list_at plain_port_at (codes ")") (left l.here)) ≡ list_at plain_port_at (codes ")") (left l.at)

abbrev pub decreases-loop-ports : goal.decreases-loop-ports
decreases-loop-ports l = length (left l.here)
