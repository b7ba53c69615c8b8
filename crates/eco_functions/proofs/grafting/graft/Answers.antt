use Rattle.std.proofs.Common.{arith}
use Rattle.eco_functions.proofs.GraftLemmas.{root_graft}
use Rattle.eco_functions.proofs.grafting.graft.Goals as goal

pub returns-clause-value : goal.returns-clause-value
returns-clause-value c =
    let end = c.loop-node-test.false in
    root_graft c.loop-node.into c.args.from.now c.loop-node.node c.loop-node.images.items c.as_slice.result.now c.args.root c.image.result c.loop-node.invariant.1 (omega (arith, end, c.nodes-nodes.ensures.count)) c.requires.root c.as_slice.ensures.value c.image.ensures
