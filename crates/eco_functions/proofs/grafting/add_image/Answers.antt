use Rattle.std.proofs.Common.{sym}
use Rattle.eco_functions.proofs.GraftLemmas.{first_graft, second_graft, images_more}
use Rattle.eco_functions.proofs.grafting.add_image.Goals as goal

pub and-requires-clause-first : goal.and-requires-clause-first
and-requires-clause-first c =
    (first_graft c.args.into.now c.args.from.now c.args.node c.args.images.now.items c.as_slice.result.now c.in-Some.first c.in-Some.second c.image-first.result c.nodes.ensures.graph c.requires.images (sym c.in-Some.ensures.pair) c.as_slice.ensures.value c.image-first.ensures).within

pub and-requires-clause-second : goal.and-requires-clause-second
and-requires-clause-second c =
    (second_graft c.args.into.now c.args.from.now c.args.node c.args.images.now.items c.as_slice-2.result.now c.in-Some.first c.in-Some.second c.image-second.result c.nodes.ensures.graph c.requires.images (sym c.in-Some.ensures.pair) c.as_slice-2.ensures.value c.image-second.ensures).within

pub returns-clause-images : goal.returns-clause-images
returns-clause-images c =
    let first = first_graft c.args.into.now c.args.from.now c.args.node c.args.images.now.items c.as_slice.result.now c.in-Some.first c.in-Some.second c.image-first.result c.nodes.ensures.graph c.requires.images (sym c.in-Some.ensures.pair) c.as_slice.ensures.value c.image-first.ensures in
    let second = second_graft c.args.into.now c.args.from.now c.args.node c.args.images.now.items c.as_slice-2.result.now c.in-Some.first c.in-Some.second c.image-second.result c.nodes.ensures.graph c.requires.images (sym c.in-Some.ensures.pair) c.as_slice-2.ensures.value c.image-second.ensures in
    images_more c.args.into.now c.and.new.self c.args.from.now c.args.node c.args.images.now.items c.in-Some.first c.in-Some.second c.image-first.result c.image-second.result c.in_ok-made.made
    c.requires.node c.and.ensures.grows c.requires.images (sym c.in-Some.ensures.pair) first second c.in_ok-made.ensures.value
