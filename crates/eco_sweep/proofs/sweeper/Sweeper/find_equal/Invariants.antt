-- What is known stays.
use Rattle.std.proofs.Common.{◌≡◌}
use Rattle.eco_sweep.proofs.sweeper.Sweeper.find_equal.Given as goal

abbrev pub invariant-loop-turn : goal.invariant-loop-turn
invariant-loop-turn g l = l.self ≡ l.fn.self
