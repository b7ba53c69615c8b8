-- One more edge goes to one of the first nodes.
use Rattle.std.proofs.Common.{◌<◌, false, refl, arith}
use Rattle.eco_aig.specs.declared.edge.Edge.{Edge}
use Rattle.eco_splice.proofs.TableLemmas.{all_more, all_end}
use Rattle.eco_splice.proofs.places.are_within.Goals as goal

pub loop-edge-preserved : goal.loop-edge-preserved
loop-edge-preserved c =
    all_more (λ (e : Edge). e.node < c.args.nodes) c.args.edges.now c.loop-edge.edge-index (record { node = 0; complemented = false }) (omega arith) c.loop-edge.invariant (omega arith)

pub returns : goal.returns
returns c = (
  λ is. all_end (λ (e : Edge). e.node < c.args.nodes) c.args.edges.now c.loop-edge.edge-index (omega arith) c.loop-edge.invariant,
  λ all. refl,
)
