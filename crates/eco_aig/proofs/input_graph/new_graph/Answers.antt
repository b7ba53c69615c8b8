-- No input at first, one more, and all of them.
use Rattle.std.proofs.Common.{arith, ap, length}
use Rattle.eco_aig.proofs.InputEdges.{no_inputs, input_more, inputs_are}
use Rattle.eco_aig.proofs.input_graph.new_graph.Goals as goal

pub loop-init : goal.loop-init
loop-init c =
    (no_inputs c.in_ok-aig.aig c.new-edges.result.items c.in_ok-aig.ensures.constant c.new-edges.ensures.items, ap length c.new-edges.ensures.items)

pub loop-preserved : goal.loop-preserved
loop-preserved c =
    let before = c.loop.invariant in
    let made = c.in_ok-input.ensures.ok in
    let is = input_more c.loop.aig c.input.new.self c.loop.edges.items c.push.new.self.items c.in_ok-input.field-0 before.0 made.0 made.1 c.in_ok-push.ensures.items in
    (is, omega (arith, before.1, c.in_ok-push.ensures.len))

pub returns-clause-inputs : goal.returns-clause-inputs
returns-clause-inputs c = inputs_are c.loop.aig c.loop.edges.items c.nodes.ensures.graph c.loop.invariant.0
