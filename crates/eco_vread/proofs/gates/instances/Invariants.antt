use Rattle.std.proofs.Common.{◌≡◌, length, map, codes}
use Rattle.eco_vread.specs.Trees.{left, instance_of}
use Rattle.eco_vread.specs.Fronts.{list_at}
use Rattle.eco_vread.specs.Parse.{instance_at}
use Rattle.eco_vread.proofs.Repeats.{ahead}
use Rattle.eco_vread.proofs.gates.instances.Given as goal

-- what is read, and then what the rest of the list is, are the list
abbrev pub invariant-loop-instances : goal.invariant-loop-instances
invariant-loop-instances l =
    ahead (map instance_of l.instances.items) (list_at (instance_at l.kind) (codes ";") (left l.here)) ≡ list_at (instance_at l.kind) (codes ";") (left l.at)

abbrev pub decreases-loop-instances : goal.decreases-loop-instances
decreases-loop-instances l = length (left l.here)
