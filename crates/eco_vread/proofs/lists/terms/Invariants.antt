use Rattle.std.proofs.Common.{◌≡◌, length, map, codes}
use Rattle.eco_vread.specs.Views.{term_of}
use Rattle.eco_vread.specs.Trees.{left}
use Rattle.eco_vread.specs.Fronts.{list_at, term_at}
use Rattle.eco_vread.proofs.Repeats.{ahead}
use Rattle.eco_vread.proofs.lists.terms.Given as goal

-- what is read, and then what the rest of the list is, are the list
abbrev pub invariant-loop-terms : goal.invariant-loop-terms
invariant-loop-terms l =
    ahead (map term_of l.terms.items) (list_at term_at (codes ")") (left l.here)) ≡ list_at term_at (codes ")") (left l.at)

abbrev pub decreases-loop-terms : goal.decreases-loop-terms
decreases-loop-terms l = length (left l.here)
