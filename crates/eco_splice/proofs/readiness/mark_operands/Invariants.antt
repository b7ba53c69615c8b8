-- The marks of the operands so far.
use Rattle.std.proofs.Common.{take}
use Rattle.eco_splice.specs.Tables.{AreMarkedFor}
use Rattle.eco_splice.proofs.readiness.mark_operands.Given as goal

abbrev pub invariant-loop-operand : goal.invariant-loop-operand
invariant-loop-operand l = AreMarkedFor (take l.operand-index l.operands) l.fn.read.items l.read.items
