-- One more image.
use Rattle.std.proofs.Common.{sym, subst, take, ◌+◌, get_or}
use Rattle.std.specs.List.{AllZip}
use Rattle.std.proofs.lemmas.Option.{slice_get-get_or}
use Rattle.std.proofs.lemmas.List.Elements.{all_zip_more}
use Rattle.std.proofs.lemmas.List.{get_or_default}
use Rattle.eco_lists.proofs.Places.{All_at}
use Rattle.eco_aig.specs.Edges.{plain, value_of}
use Rattle.eco_aig.specs.Graph.{IsEdge, HasValue}
use Rattle.eco_aig.specs.Swept.{AreImages, StandsFor}
use Rattle.eco_aig.proofs.images.Images.images_of.Goals as goal

pub loop-edge-preserved : goal.loop-edge-preserved
loop-edge-preserved c =
    let edges = c.args.edges.now in
    let i = c.loop-edge.edge-index in
    let images = c.loop-edge.images.items in
    let within = c.loop-edge-test.true in
    let at = slice_get-get_or edges i (plain 0) within in
    let is = get_or_default edges i (plain 0) (get_or edges i (plain 0)) within in
    let image = c.image_of.result in
    record {
      stand = subst (AllZip (StandsFor c.args.self.now) (take (i + 1) edges)) (sym c.in_ok-push.ensures.items) (all_zip_more (StandsFor c.args.self.now) edges images i _ image within is c.loop-edge.invariant.stand (record { found = c.image_of.ensures.found; itself = c.image_of.ensures.itself }));
      images = λ nodes all swept.
          let value = c.image_of.ensures.value nodes (All_at (IsEdge nodes) edges i _ all at) swept in
          subst (AreImages nodes (take (i + 1) edges)) (sym c.in_ok-push.ensures.items) (all_zip_more (λ e r. HasValue nodes r (λ w. value_of w e)) edges images i _ image within is (c.loop-edge.invariant.images nodes all swept) value);
    }
