use Rattle.std.proofs.Common.{◌≡◌, ◌<◌, ◌-◌, ◌^◌, Some, length, arith, refl, sym, ap, ◌∙◌}
use Rattle.std.specs.List.{slice_get}
use Rattle.std.proofs.lemmas.Option.{slice_get_read}
use Rattle.eco_lists.proofs.Places.{Contains_at}
use Rattle.eco_netlist.specs.Numbering.{Chosen}
use Rattle.eco_netlist.proofs.NumberLemmas.{put, unplaced, placed, among, not_among}
use Rattle.eco_netlist.proofs.numbering.Numbering.add.Goals as goal

pub invariant_of-self-then-index : goal.invariant_of-self-then-index
invariant_of-self-then-index c =
    let at : slice_get c.self.inside.places.items c.args.net.0 ≡ Some (2 ^ 64 - 1) =
    slice_get_read c.self.inside.places.items (length c.self.inside.places.items) c.args.net.0 c.index.result.now refl
    (omega (arith, c.requires, ap (λ (n : Chosen). n.names) c.self.view_is)) c.index.ensures ∙ ap Some c.if-index.true in
    let few : length c.self.inside.nets.items < 2 ^ 64 - 1 = omega (arith, c.self.inside.nets.ok.0, c.self.inside.nets.ok) in
    rw (c.in_ok-push.ensures.items, c.len-place.ensures, c.self.inside.nets.ok.0) (put c.self.inside.nets.items c.self.inside.places.items c.args.net c.self.invariant few at)

pub returns-in_ok-push-clause-added : goal.returns-in_ok-push-clause-added
returns-in_ok-push-clause-added c =
    let at : slice_get c.self.inside.places.items c.args.net.0 ≡ Some (2 ^ 64 - 1) =
    slice_get_read c.self.inside.places.items (length c.self.inside.places.items) c.args.net.0 c.index.result.now refl
    (omega (arith, c.requires, ap (λ (n : Chosen). n.names) c.self.view_is)) c.index.ensures ∙ ap Some c.if-index.true in
    let few : length c.self.inside.nets.items < 2 ^ 64 - 1 = omega (arith, c.self.inside.nets.ok.0, c.self.inside.nets.ok) in
    let absent = not_among c.self.inside.nets.items c.args.net (unplaced c.self.inside.nets.items c.self.inside.places.items c.args.net c.self.invariant few at) in
    c.in_ok-push.ensures.items ∙ rw (sym c.self.view_is, absent) refl

pub returns-else-index-clause-added : goal.returns-else-index-clause-added
returns-else-index-clause-added c =
    let at : slice_get c.self.inside.places.items c.args.net.0 ≡ Some c.index.result.now =
    slice_get_read c.self.inside.places.items (length c.self.inside.places.items) c.args.net.0 c.index.result.now refl
    (omega (arith, c.requires, ap (λ (n : Chosen). n.names) c.self.view_is)) c.index.ensures in
    let there = placed c.self.inside.nets.items c.self.inside.places.items c.args.net c.index.result.now c.self.invariant at c.if-index.false in
    let found = among c.self.inside.nets.items c.args.net (Contains_at c.self.inside.nets.items c.index.result.now c.args.net there) in
    rw (sym c.self.view_is, found) refl
