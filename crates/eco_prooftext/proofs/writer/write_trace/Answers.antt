use Rattle.std.proofs.Common.{arith}
use Rattle.eco_prooftext.proofs.TextLaws.{text_step}
use Rattle.eco_prooftext.proofs.writer.write_trace.Goals as goal

pub loop-node-preserved : goal.loop-node-preserved
loop-node-preserved c =
    text_step c.args.trace.now _ _ c.loop-node.node (omega arith) (omega arith) c.loop-node.invariant c.in_ok-push_node.ensures.ok
