use Rattle.std.proofs.Common.{◌≡◌, ℕ, ◌+◌, ◌<◌, Some}
use Rattle.std.specs.List.{All, slice_get}
use Rattle.eco_splice.specs.declared.line.Line.{Line}
use Rattle.eco_splice.specs.LineGates.{StandsBefore}
use Rattle.eco_splice.proofs.readiness.read_earlier.Given as goal

abbrev pub invariant-loop-place : goal.invariant-loop-place
invariant-loop-place l =
    (k : ℕ) (line : Line) → k < l.place → slice_get l.lines k ≡ Some line →
    All (StandsBefore l.places.edges.items (l.inputs + k)) line.operands.items
