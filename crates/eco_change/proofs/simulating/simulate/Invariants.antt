-- All that were found are wrong.
use Rattle.std.specs.List.{All}
use Rattle.eco_change.specs.Failing.{IsFailing}
use Rattle.eco_change.proofs.simulating.simulate.Given as goal

abbrev pub invariant-loop-number : goal.invariant-loop-number
invariant-loop-number l = All (IsFailing l.change.old l.change.goal) l.failing.items
