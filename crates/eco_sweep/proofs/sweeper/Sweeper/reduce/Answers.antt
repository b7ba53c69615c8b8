-- The edges have images.
use Rattle.std.proofs.Common.{List, sym, subst}
use Rattle.std.specs.List.{All}
use Rattle.std.proofs.lemmas.Result.{IfOk-weaker}
use Rattle.eco_aig.specs.declared.node.Node.{Node}
use Rattle.eco_aig.specs.Graph.{IsEdge}
use Rattle.eco_aig.specs.Swept.{IsSwept, AreImages}
use Rattle.eco_aig.proofs.Growing.{edges_stay}
use Rattle.eco_sweep.specs.Sweepers.{SweeperValue}
use Rattle.eco_sweep.proofs.sweeper.Sweeper.reduce.Goals as goal

pub returns-clause-images : goal.returns-clause-images
returns-clause-images g c =
    let new = c.loop-node.aig in
    let edges = c.args.edges.now in
    let swept = subst (λ (value : SweeperValue). IsSwept new value.map) (sym c.self.view_is) c.loop-node.invariant.swept in
    let within = edges_stay c.args.aig.now new c.loop-node.node-index edges c.loop-node.invariant.grows c.requires.edges in
    IfOk-weaker c.images_of.result (λ images. (nodes : List Node) → All (IsEdge nodes) edges → IsSwept nodes c.self.inside.map → AreImages nodes edges images.items) (λ images. AreImages new edges images.items) (λ images are. are new within swept) c.images_of.ensures.images
