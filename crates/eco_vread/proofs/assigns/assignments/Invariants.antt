use Rattle.std.proofs.Common.{◌≡◌, length, map, codes}
use Rattle.eco_vread.specs.Trees.{left, assignment_of}
use Rattle.eco_vread.specs.Fronts.{list_at}
use Rattle.eco_vread.specs.Parse.{assignment_at}
use Rattle.eco_vread.proofs.Repeats.{ahead}
use Rattle.eco_vread.proofs.assigns.assignments.Given as goal

-- what is read, and then what the rest of the list is, are the list
abbrev pub invariant-loop-assignments : goal.invariant-loop-assignments
invariant-loop-assignments l =
    ahead (map assignment_of l.assignments.items) (list_at assignment_at (codes ";") (left l.here)) ≡ list_at assignment_at (codes ";") (left l.at)

abbrev pub decreases-loop-assignments : goal.decreases-loop-assignments
decreases-loop-assignments l = length (left l.here)
