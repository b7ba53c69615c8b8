use Rattle.std.proofs.Common.{◌≡◌, [], length}
use Rattle.eco_vread.specs.Trees.{left}
use Rattle.eco_vread.specs.Expressions.{rest_at, wanted}
use Rattle.eco_vread.specs.Kept.{place_of}
use Rattle.eco_vread.proofs.expression.expression.Given as goal

-- what goes on from here is what goes on from the start
abbrev pub invariant-loop-reading : goal.invariant-loop-reading
invariant-loop-reading l = rest_at (left l.here) (place_of l.is_behind l.reading) ≡ rest_at (left l.at) (wanted [] [])

abbrev pub decreases-loop-reading : goal.decreases-loop-reading
decreases-loop-reading l = length (left l.here)
