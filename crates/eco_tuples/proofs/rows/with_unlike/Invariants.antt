-- The marks so far.
use Rattle.std.proofs.Common.{◌≡◌, ℕ, false, Some, length}
use Rattle.std.specs.List.{slice_get}
use Rattle.eco_tuples.proofs.rows.with_unlike.Given as goal

abbrev pub invariant-loop-place : goal.invariant-loop-place
invariant-loop-place l =
    (length l.made.items ≡ l.place)
    × ((k : ℕ) → slice_get l.made.items k ≡ Some false → (slice_get l.marks k ≡ Some false) × (slice_get l.edges k ≡ slice_get l.others k))
