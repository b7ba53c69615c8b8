-- One more batch, and at the end all of them.
use Rattle.std.proofs.Common.{◌≡◌, ◌<◌, [], length, sym, subst}
use Rattle.std.proofs.lemmas.Bool.{eqb-true}
use Rattle.std.proofs.lemmas.Option.{slice_get-get_or}
use Rattle.eco_lists.proofs.Places.{All_at, no_items}
use Rattle.eco_meaning.specs.Circuit.{names}
use Rattle.eco_gates.specs.declared.gate.NetId.{NetId}
use Rattle.eco_netlist.specs.Netlists.{name_at}
use Rattle.eco_lanes.proofs.SiftLemmas.{AreSiftedTo, sift_begins, batch_within, sift_more, sift_ends}
use Rattle.eco_lanes.proofs.sifting.sift.Goals as goal

pub loop-rest-init : goal.loop-rest-init
loop-rest-init c =
    rw c.new.ensures.items (rw c.new-2.ensures.items (sift_begins c.args.f.now c.args.input.now c.args.wanted.now c.args.nets.now))

pub mended-requires-clause-within : goal.mended-requires-clause-within
mended-requires-clause-within c =
    batch_within (names c.args.f.now) c.args.nets.now c.loop-rest.rest.now c.split_at.result.0.now c.split_at.result.1.now c.requires.within c.loop-rest.invariant.within c.split_at.ensures.by_index.0

pub loop-rest-preserved : goal.loop-rest-preserved
loop-rest-preserved c =
    let f = c.args.f.now in
    let rest = c.loop-rest.rest.now in
    let batch = c.split_at.result.0.now in
    let cut = c.split_at.ensures.by_index.0 in
    let within = batch_within (names f) c.args.nets.now rest batch c.split_at.result.1.now c.requires.within c.loop-rest.invariant.within cut in
    rw c.in_ok-part.ensures.left (rw c.in_ok-part.ensures.taken (
    sift_more f c.args.input.now c.args.wanted.now c.args.nets.now rest batch c.split_at.result.1.now c.loop-rest.sifted.left.items c.loop-rest.sifted.taken.items c.in_ok-word.word cut c.loop-rest.invariant
    (λ place net at. c.in_ok-word.ensures.bits place net (name_at (names f) net.0) at
    (slice_get-get_or (names f) net.0 [] (All_at (λ (net : NetId). net.0 < length (names f)) batch place net within at)))))

pub returns : goal.returns
returns c =
    let none : c.loop-rest.rest.now ≡ [] = no_items c.loop-rest.rest.now (eqb-true (length c.loop-rest.rest.now) 0 (sym c.loop-rest-test.ensures)) in
    sift_ends c.args.f.now c.args.input.now c.args.wanted.now c.args.nets.now c.loop-rest.sifted.left.items c.loop-rest.sifted.taken.items
    (subst (λ rest. AreSiftedTo c.args.f.now c.args.input.now c.args.wanted.now c.args.nets.now rest c.loop-rest.sifted.left.items c.loop-rest.sifted.taken.items) none c.loop-rest.invariant)
