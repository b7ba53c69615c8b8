-- The numbers so far have values.
use Rattle.std.proofs.Common.{◌≡◌, ℕ, ◌<◌, Some, None, slice_get}
use Rattle.eco_learn.proofs.taken.first_open.Given as goal

abbrev pub invariant-loop-number : goal.invariant-loop-number
invariant-loop-number l = (v : ℕ) → 0 < v → v < l.number → slice_get l.values v ≡ Some None → ⊥
