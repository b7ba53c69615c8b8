use Rattle.std.proofs.Common.{◌≡◌, drop, map}
use Rattle.eco_vread.specs.declared.tree.Direction.TheVariants.{In}
use Rattle.eco_vread.specs.Trees.{port_of}
use Rattle.eco_vread.specs.Declaring.{with_directions}
use Rattle.eco_vread.proofs.declare.add_directions.Given as goal

-- with the directions of the ports that are left it has those of all
abbrev pub invariant-loop-port : goal.invariant-loop-port
invariant-loop-port l =
    with_directions l.draft l.direction (map port_of (drop l.port-index l.ports))
    ≡ with_directions l.initial.draft In (map port_of l.ports)
