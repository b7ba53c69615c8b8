-- What is known stays.
use Rattle.std.proofs.Common.{◌≡◌}
use Rattle.eco_sweep.proofs.sweeper.Sweeper.is_equal.Given as goal

abbrev pub invariant-loop-most : goal.invariant-loop-most
invariant-loop-most g l = l.self ≡ l.fn.self
