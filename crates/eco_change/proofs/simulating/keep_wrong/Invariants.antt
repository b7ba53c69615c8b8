-- All that were found are wrong.
use Rattle.std.specs.List.{All}
use Rattle.eco_change.specs.Failing.{IsFailing}
use Rattle.eco_change.proofs.simulating.keep_wrong.Given as goal

abbrev pub invariant-loop-lane : goal.invariant-loop-lane
invariant-loop-lane l = All (IsFailing l.change.old l.change.goal) l.failing.items
