use Rattle.std.proofs.lemmas.List.Elements.{Contains-get_or}
use Rattle.eco_netlist.proofs.PlacedLemmas.{placed_more}
use Rattle.eco_netlist.proofs.placing.places_of.Goals as goal

pub place-requires : goal.place-requires
place-requires c = c.requires _ (Contains-get_or c.args.list.now c.loop-net.net-index (record { 0 = 0 }) c.loop-net-test.true)

pub loop-net-preserved : goal.loop-net-preserved
loop-net-preserved c =
    rw c.in_ok-push.ensures.items
    (placed_more c.args.numbering.now.nets c.args.list.now c.loop-net.places.items c.loop-net.net-index c.place.result (record { 0 = 0 }) c.loop-net-test.true c.loop-net.invariant c.place.ensures)
