-- The nets so far.
use Rattle.std.proofs.Common.{◌≡◌, map, take}
use Rattle.eco_base.specs.Fronts.{column_at}
use Rattle.eco_base.proofs.state.nets_of.Given as goal

abbrev pub invariant-loop-column : goal.invariant-loop-column
invariant-loop-column l = l.nets.items ≡ map (column_at l.columns) (take l.column-index l.fixed)
