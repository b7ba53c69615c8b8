-- The columns so far.
use Rattle.std.proofs.Common.{◌≡◌, ◌<◌, true, Some}
use Rattle.std.specs.List.{slice_get}
use Rattle.eco_floor.specs.Rows.{IsSetOf}
use Rattle.eco_floor.proofs.row.columns_set.Given as goal

abbrev pub invariant-loop-column : goal.invariant-loop-column
invariant-loop-column l = IsSetOf (λ column. (column < l.column) × (slice_get l.bits column ≡ Some true)) l.columns.items
