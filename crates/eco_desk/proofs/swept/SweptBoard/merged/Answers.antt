-- What linear algebra gives is compared then.
use Rattle.std.proofs.Common.{◌+◌, ◌∙◌, length, refl, sym, subst}
use Rattle.std.specs.List.{All}
use Rattle.std.proofs.lemmas.Result.{IfOk-weaker}
use Rattle.eco_aig.specs.Graph.{IsEdge}
use Rattle.eco_aig.specs.Swept.{AreImages}
use Rattle.eco_aig.proofs.Growing.{grows_join}
use Rattle.eco_aig.proofs.Standing.{swept_grows, images_within, images_join}
use Rattle.eco_affine.proofs.Standing.{formed_grows}
use Rattle.eco_desk.proofs.swept.SweptBoard.merged.Goals as goal

pub reduce-requires-2-clause-edges : goal.reduce-requires-2-clause-edges
reduce-requires-2-clause-edges c =
    let graph = c.reduce.new.aig in
    subst (All (IsEdge graph)) (sym c.as_slice.ensures.value)
    (images_within graph c.args.edges.now c.in_ok-straight.straight.items c.in_ok-straight.ensures.images)

pub reduce-requires-2-clause-swept : goal.reduce-requires-2-clause-swept
reduce-requires-2-clause-swept c =
    let old = c.args.self.now in
    swept_grows old.board.graph c.reduce.new.aig (length old.board.graph) old.sweeper.map c.reduce.ensures.grows c.requires.merged.sweeper

pub returns-clause-continues : goal.returns-clause-continues
returns-clause-continues c =
    let old = c.args.self.now.board.graph in
    let mid = c.reduce.new.aig in
    let new = c.reduce-2.new.aig in
    record {
      keeps = record { inputs = refl; goal = refl };
      most = length old + length mid;
      grows = grows_join old mid new (length old) (length mid) c.reduce.ensures.grows c.reduce-2.ensures.grows;
      merged = record {
        sweeper = c.reduce-2.ensures.swept;
        forms = formed_grows mid new (length mid) c.reduce.new.self c.reduce-2.ensures.grows c.reduce.ensures.formed;
        limit = c.reduce.ensures.limit ∙ c.requires.merged.limit ∙ sym c.reduce-2.ensures.limit;
      };
      limit = c.reduce-2.ensures.limit;
    }

pub returns-clause-images : goal.returns-clause-images
returns-clause-images c =
    let mid = c.reduce.new.aig in
    let new = c.reduce-2.new.aig in
    let straight = c.in_ok-straight.straight.items in
    IfOk-weaker c.reduce-2.result (λ images. AreImages new c.as_slice.result.now images.items) (λ images. AreImages new c.args.edges.now images.items)
    (λ images are.
    images_join mid new (length mid) c.args.edges.now straight images.items c.reduce-2.ensures.grows c.in_ok-straight.ensures.images
    (subst (λ list. AreImages new list images.items) c.as_slice.ensures.value are))
    c.reduce-2.ensures.images
