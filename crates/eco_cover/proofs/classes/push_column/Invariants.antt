-- The bits so far.
use Rattle.std.proofs.Common.{◌≡◌, ◌++◌, take}
use Rattle.eco_cover.specs.Classes.{bits_at}
use Rattle.eco_cover.proofs.classes.push_column.Given as goal

abbrev pub invariant-loop-row : goal.invariant-loop-row
invariant-loop-row l = l.bits.items ≡ l.initial.bits.items ++ bits_at (take l.row-index l.rows) l.column
