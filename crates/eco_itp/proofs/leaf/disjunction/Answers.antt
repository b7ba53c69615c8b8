-- No literal, and one more.
use Rattle.std.proofs.Common.{false}
use Rattle.eco_aig.proofs.Conjunctions.{zero_value}
use Rattle.eco_aig.proofs.Growing.{grows_none, grows_join}
use Rattle.eco_itp.proofs.Leaving.{leaf_more}
use Rattle.eco_itp.proofs.leaf.disjunction.Goals as goal

pub loop-lit-init : goal.loop-lit-init
loop-lit-init c = record { value = zero_value c.args.aig.now c.requires.graph; grows = grows_none c.args.aig.now 0 }

pub loop-lit-preserved : goal.loop-lit-preserved
loop-lit-preserved c = record {
  value = leaf_more c.args.parts.now c.loop-lit.aig c.with_literal.new.aig c.args.clause.now c.loop-lit.lit-index (record { var = record { 0 = 0 }; positive = false }) c.loop-lit.edge c.in_ok-edge.edge c.loop-lit-test.true c.with_literal.ensures.grows c.loop-lit.invariant.value c.in_ok-edge.ensures.value;
  grows = grows_join c.args.aig.now c.loop-lit.aig c.with_literal.new.aig c.loop-lit.lit-index 1 c.loop-lit.invariant.grows c.with_literal.ensures.grows;
}
