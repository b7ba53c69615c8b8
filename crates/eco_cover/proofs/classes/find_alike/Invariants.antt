-- No class of the zero-rows so far is that of a one-row.
use Rattle.std.proofs.Common.{◌≡◌, ◌≤◌, ◌<◌, ℕ, Some}
use Rattle.std.specs.List.{slice_get}
use Rattle.eco_cover.proofs.classes.find_alike.Given as goal

abbrev pub invariant-loop-row : goal.invariant-loop-row
invariant-loop-row l = (k first : ℕ) → l.ones ≤ k → k < l.row → slice_get l.classes k ≡ Some first → l.ones ≤ first
