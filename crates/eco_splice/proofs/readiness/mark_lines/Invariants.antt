-- The marks of the lines so far.
use Rattle.std.proofs.Common.{take, length}
use Rattle.eco_splice.specs.Tables.{AreReadMarks}
use Rattle.eco_splice.proofs.readiness.mark_lines.Given as goal

abbrev pub invariant-loop-place : goal.invariant-loop-place
invariant-loop-place l = AreReadMarks (length l.fn.read.items) (take l.place l.lines) l.read.items
