-- The columns so far have paid.
use Rattle.std.proofs.Common.{take}
use Rattle.eco_floor.specs.Search.{IsLowered}
use Rattle.eco_floor.proofs.packing.lower.Given as goal

abbrev pub invariant-loop-column : goal.invariant-loop-column
invariant-loop-column l = IsLowered (take l.column-index l.row) l.initial.slack.items l.slack.items l.amount
