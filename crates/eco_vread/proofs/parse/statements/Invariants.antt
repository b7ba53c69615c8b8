use Rattle.std.proofs.Common.{◌≡◌, length, map}
use Rattle.eco_vread.specs.Trees.{left, statement_of}
use Rattle.eco_vread.specs.Fronts.{repeated}
use Rattle.eco_vread.specs.Parse.{item_at}
use Rattle.eco_vread.proofs.Repeats.{behind}
use Rattle.eco_vread.proofs.parse.statements.Given as goal

-- what is read, and then what the rest of the statements are, are all of them
abbrev pub invariant-loop-statements : goal.invariant-loop-statements
invariant-loop-statements l =
    behind (map statement_of l.statements.items) (repeated item_at (left l.here)) ≡ repeated item_at (left l.at)

abbrev pub decreases-loop-statements : goal.decreases-loop-statements
decreases-loop-statements l = length (left l.here)
