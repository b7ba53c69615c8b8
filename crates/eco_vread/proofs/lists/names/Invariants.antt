use Rattle.std.proofs.Common.{◌≡◌, length}
use Rattle.eco_vread.specs.Views.{identifiers_of}
use Rattle.eco_vread.specs.Trees.{left}
use Rattle.eco_vread.specs.Fronts.{list_at, name_at}
use Rattle.eco_vread.proofs.Repeats.{ahead}
use Rattle.eco_vread.proofs.lists.names.Given as goal

-- what is read, and then what the rest of the list is, are the list
abbrev pub invariant-loop-names : goal.invariant-loop-names
invariant-loop-names l =
    ahead (identifiers_of l.names.items) (list_at name_at l.end (left l.here)) ≡ list_at name_at l.end (left l.at)

abbrev pub decreases-loop-names : goal.decreases-loop-names
decreases-loop-names l = length (left l.here)
