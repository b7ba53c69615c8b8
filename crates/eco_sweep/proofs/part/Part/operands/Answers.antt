-- Copies of the operands of the node.
use Rattle.std.proofs.Common.{sym}
use Rattle.eco_aig.proofs.Conjunctions.{pair_at_node}
use Rattle.eco_sweep.proofs.Copying.{operand_copies}
use Rattle.eco_sweep.proofs.part.Part.operands.Goals as goal

pub returns : goal.returns
returns c =
    let whole = c.args.aig.now in
    let a = c.in_ok-first.first in
    let b = c.in_ok-first.second in
    operand_copies whole c.args.cone.now.nodes.items c.args.self.now.graph c.args.self.now.copies.items c.args.node a b c.in_ok-first-2.first c.in_ok-second.second (pair_at_node whole c.args.node a b (sym c.in_ok-first.ensures.pair)) (c.in_ok-first-2.ensures whole c.requires) (c.in_ok-second.ensures whole c.requires)
