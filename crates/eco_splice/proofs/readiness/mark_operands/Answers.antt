-- The marks of one more operand.
use Rattle.std.proofs.Common.{false, arith}
use Rattle.eco_splice.proofs.TableLemmas.{marked_for_none, marked_for_more, marked_for_all}
use Rattle.eco_splice.proofs.readiness.mark_operands.Goals as goal

pub loop-operand-init : goal.loop-operand-init
loop-operand-init c = marked_for_none c.args.read.now.items

pub loop-operand-preserved : goal.loop-operand-preserved
loop-operand-preserved c =
    marked_for_more c.args.operands.now c.loop-operand.operand-index (record { node = 0; complemented = false }) _ _ _ (omega arith) c.loop-operand.invariant c.mark_plain.ensures

pub returns : goal.returns
returns c = marked_for_all c.args.operands.now c.loop-operand.operand-index _ _ (omega arith) c.loop-operand.invariant
