-- The conjunction of the operands' images is the node's image.
use Rattle.std.proofs.Common.{Some, set, refl, ap}
use Rattle.eco_merge.proofs.Treating.{image_ready, conjunction_value, conjunction_merged, joined_member}
use Rattle.eco_merge.proofs.merging.Merging.treat_conjunction.Goals as goal

pub returns-clause-ready : goal.returns-clause-ready
returns-clause-ready g c =
    let old = c.args.aig.now in
    let new = c.conjunction.new.aig in
    let m = c.args.self.now in
    let mid = c.conjunction.new.self in
    let e = c.in_ok-image.image in
    let p = c.image-first_image.result in
    let q = c.image-second_image.result in
    let value = conjunction_value old new c.args.node m.images.items c.args.first c.args.second p q e c.in_ok-image.ensures.grows c.requires.operands c.requires.ready.swept c.image-first_image.ensures c.image-second_image.ensures c.in_ok-image.ensures.value in
    image_ready new c.args.limit c.args.node e mid _ c.in_ok-image.ensures.ready value (joined_member new m.kept.items mid.kept.items p q e c.in_ok-image.ensures.joined) refl refl refl

pub returns-clause-merged : goal.returns-clause-merged
returns-clause-merged g c = λ old roots is reached.
    let new = c.conjunction.new.aig in
    let m = c.args.self.now in
    let e = c.in_ok-image.image in
    let p = c.image-first_image.result in
    let q = c.image-second_image.result in
    conjunction_merged old roots c.args.aig.now new m _ c.args.node c.args.first c.args.second p q e is c.in_ok-image.ensures.grows reached c.requires.untreated c.requires.operands c.image-first_image.ensures c.image-second_image.ensures c.in_ok-image.ensures.joined (ap (λ list. set list c.args.node (Some e)) c.in_ok-image.ensures.images)
