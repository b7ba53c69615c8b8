-- Sizes that are no larger are those of edges that reach no more.
use Rattle.eco_functions.proofs.Sizing.{sizes_no_more}
use Rattle.eco_functions.proofs.choosing.reach_no_more.Goals as goal

pub returns : goal.returns
returns c = record {
  no_more = λ yes. sizes_no_more c.args.aig.now c.args.edges.now c.args.others.now c.in_ok-after.after c.in_ok-before.before c.nodes.ensures.graph
      c.in_ok-after.ensures.sizes c.in_ok-before.ensures.sizes (c.is_no_larger.ensures.gates yes) (c.is_no_larger.ensures.wires yes);
}
