-- The edges have images.
use Rattle.std.proofs.Common.{List, sym, subst}
use Rattle.std.specs.List.{All}
use Rattle.std.proofs.lemmas.Result.{IfOk-weaker}
use Rattle.eco_aig.specs.declared.node.Node.{Node}
use Rattle.eco_aig.specs.Graph.{IsEdge}
use Rattle.eco_aig.specs.Swept.{IsSwept, AreImages}
use Rattle.eco_aig.proofs.Growing.{edges_stay}
use Rattle.eco_affine.specs.Forms.{IsFormed}
use Rattle.eco_affine.proofs.forms.Forms.reduce.Goals as goal

pub returns-clause-images : goal.returns-clause-images
returns-clause-images c =
    let new = c.loop-place.aig in
    let edges = c.args.edges.now in
    let known = subst (IsFormed new) (sym c.self-2.view_is) c.loop-place.invariant.formed in
    let within = edges_stay c.args.aig.now new c.loop-place.place edges c.loop-place.invariant.grows c.requires.edges in
    IfOk-weaker c.images_of.result (λ images. (nodes : List Node) → All (IsEdge nodes) edges → IsSwept nodes c.self-2.inside.map → AreImages nodes edges images.items) (λ images. AreImages new edges images.items) (λ images are. are new within known.swept) c.images_of.ensures.images
