-- The node has an image, or gets one.
use Rattle.std.proofs.Common.{sym, ◌∙◌}
use Rattle.eco_aig.proofs.Growing.{grows_more}
use Rattle.std.proofs.lemmas.Result.{on_ok_weaker}
use Rattle.eco_merge.proofs.Reducing.{image_read, none_read, visited_now, visited_before, undone_some}
use Rattle.eco_merge.proofs.merging.Merging.visit.Goals as goal

pub returns-then-is_some-clause-images : goal.returns-then-is_some-clause-images
returns-then-is_some-clause-images g c =
    let images = c.args.self.now.images.items in
    visited_before c.args.aig.now images c.args.node (image_read images c.args.node c.index.result.now c.requires.node c.index.ensures (sym c.is_some.ensures ∙ c.if-is_some.true))

pub returns-else-is_some-clause-grows : goal.returns-else-is_some-clause-grows
returns-else-is_some-clause-grows g c =
    let images = c.args.self.now.images.items in
    let untreated = none_read images c.args.node c.index.result.now c.requires.node c.index.ensures (sym c.is_some.ensures ∙ c.if-is_some.false) in
    grows_more c.args.aig.now c.treat.new.aig 1 _ (undone_some images c.args.node untreated) c.treat.ensures.grows

pub returns-else-is_some-clause-images : goal.returns-else-is_some-clause-images
returns-else-is_some-clause-images g c =
    let images = c.args.self.now.images.items in
    let untreated = none_read images c.args.node c.index.result.now c.requires.node c.index.ensures (sym c.is_some.ensures ∙ c.if-is_some.false) in
    on_ok_weaker c.treat.result (λ gains. visited_now c.args.aig.now c.treat.new.aig images c.treat.new.self.images.items c.args.node untreated gains c.treat.ensures.grows) c.treat.ensures.images
