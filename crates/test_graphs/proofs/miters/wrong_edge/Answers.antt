-- Older edges stay.
use Rattle.std.proofs.Common.{sym, subst}
use Rattle.std.specs.Option.{option_copied}
use Rattle.eco_compile.specs.Compiled.{AreEdges}
use Rattle.eco_aig.proofs.Growing.{edges_stay}
use Rattle.eco_compile.specs.Goals.{goal_nodes}
use Rattle.test_graphs.proofs.miters.wrong_edge.Goals as goal

pub miter-requires-clause-outputs : goal.miter-requires-clause-outputs
miter-requires-clause-outputs c =
    let care = option_copied c.args.care in
    subst (AreEdges c.goal_edges.new.aig) (sym c.as_slice.ensures.value)
    (edges_stay c.valued_edges.new.aig c.goal_edges.new.aig (goal_nodes (record { spec = c.args.spec.now; care = care })) c.in_ok-outputs.outputs.items c.goal_edges.ensures.grows c.in_ok-outputs.ensures.edges)
