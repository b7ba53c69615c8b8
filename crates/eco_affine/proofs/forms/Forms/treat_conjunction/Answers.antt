-- What stands for the conjunction of the operands' edges stands for the node.
use Rattle.std.proofs.lemmas.Option.{slice_get_within}
use Rattle.eco_affine.proofs.Standing.{formed_grows}
use Rattle.eco_aig.proofs.Conjunctions.{operands_within}
use Rattle.eco_aig.proofs.Standing.{conjunction_stays, conjunction_image}
use Rattle.eco_affine.proofs.forms.Forms.treat_conjunction.Goals as goal

pub represent-requires-clause-formed : goal.represent-requires-clause-formed
represent-requires-clause-formed c =
    formed_grows c.args.aig.now c.and.new.self 1 c.args.self.now c.and.ensures.grows c.requires.formed

pub map_to-requires-clause-within : goal.map_to-requires-clause-within
map_to-requires-clause-within c =
    slice_get_within c.and.new.self c.args.node _ (conjunction_stays c.args.aig.now c.and.new.self 1 c.args.node c.args.first c.args.second c.and.ensures.grows c.requires.pair)

pub map_to-requires-clause-value : goal.map_to-requires-clause-value
map_to-requires-clause-value c =
    let old = c.args.aig.now in
    let new = c.and.new.self in
    let operands = operands_within old c.args.node c.args.first c.args.second c.nodes.ensures.graph c.requires.pair in
    let first = c.image-first.ensures old operands.0 c.requires.formed in
    let second = c.image-second.ensures old operands.1 c.requires.formed in
    let image = c.image-image.ensures new c.in_ok-edge.ensures.value.within c.represent.ensures.formed in
    conjunction_image old new 1 c.args.node c.args.first c.args.second c.image-first.result c.image-second.result c.in_ok-edge.edge c.image-image.result c.and.ensures.grows c.requires.pair first second c.in_ok-edge.ensures.value image
