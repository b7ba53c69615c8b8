-- No term at first, one more, and all of them.
use Rattle.std.proofs.Common.{arith}
use Rattle.eco_gates.specs.declared.gate.Term.TheVariants.{Zero}
use Rattle.eco_compile.proofs.Joining.{joined_none, joined_more, joined_stops, joined_value, joined_grows}
use Rattle.eco_compile.proofs.join.join_rest.Goals as goal

pub loop-term-init : goal.loop-term-init
loop-term-init c = joined_none c.args.join c.args.first c.args.rest.now c.args.edges.now c.args.aig.now c.requires.first

pub loop-term-preserved : goal.loop-term-preserved
loop-term-preserved c =
    joined_more c.args.join c.args.first c.args.rest.now c.args.edges.now c.args.aig.now c.loop-term.aig c.join_two.new.aig c.loop-term.term-index Zero c.loop-term.edge c.term_edge.result c.in_ok-edge.edge c.loop-term-test.true c.loop-term.invariant c.term_edge.ensures c.join_two.ensures.grows c.in_ok-edge.ensures.value

pub returns-in_err-edge-clause-grows : goal.returns-in_err-edge-clause-grows
returns-in_err-edge-clause-grows c =
    joined_stops c.args.join c.args.first c.args.rest.now c.args.edges.now c.args.aig.now c.loop-term.aig c.join_two.new.aig c.loop-term.term-index c.loop-term.edge c.loop-term-test.true c.loop-term.invariant c.join_two.ensures.grows

pub returns-clause-value : goal.returns-clause-value
returns-clause-value c =
    joined_value c.args.join c.args.first c.args.rest.now c.args.edges.now c.args.aig.now c.loop-term.aig c.loop-term.term-index c.loop-term.edge c.loop-term-test.false c.loop-term.invariant

pub returns-clause-grows : goal.returns-clause-grows
returns-clause-grows c =
    joined_grows c.args.join c.args.first c.args.rest.now c.args.edges.now c.args.aig.now c.loop-term.aig c.loop-term.term-index c.loop-term.edge (omega arith) c.loop-term.invariant
