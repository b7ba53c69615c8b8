-- The gates so far have their values at each place.
use Rattle.std.proofs.Common.{ℕ, ◌<◌}
use Rattle.eco_gates.specs.Words.{lane}
use Rattle.eco_gates.proofs.Running.{IsRunTo}
use Rattle.eco_gates.proofs.words.fill_words.Given as goal

abbrev pub invariant-loop-number : goal.invariant-loop-number
invariant-loop-number l =
    (place : ℕ) → place < 64 → IsRunTo l.gates l.order (lane l.initial.words place) l.number-index (lane l.words place)
