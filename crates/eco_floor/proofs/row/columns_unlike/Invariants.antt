-- The columns so far.
use Rattle.std.proofs.Common.{◌≢◌, ◌<◌}
use Rattle.std.specs.List.{slice_get}
use Rattle.eco_floor.specs.Rows.{IsSetOf}
use Rattle.eco_floor.proofs.row.columns_unlike.Given as goal

abbrev pub invariant-loop-column : goal.invariant-loop-column
invariant-loop-column l = IsSetOf (λ column. (column < l.column) × (slice_get l.one column ≢ slice_get l.zero column)) l.columns.items
