-- The least of the columns so far.
use Rattle.std.proofs.Common.{take}
use Rattle.eco_floor.specs.Search.{IsLeast}
use Rattle.eco_floor.proofs.packing.least.Given as goal

abbrev pub invariant-loop-column : goal.invariant-loop-column
invariant-loop-column l = IsLeast l.slack (take l.column-index l.row) l.least
