use Rattle.std.proofs.Common.{List, nat_lt, ◌∙◌, subst}
use Rattle.eco_gates.specs.declared.gate.NetId.{NetId}
use Rattle.eco_netlist.specs.Numbering.{ArePlaced}
use Rattle.eco_netlist.specs.Tallies.{tally_at, count_in}
use Rattle.eco_netlist.proofs.PlacedLemmas.{has_kept}
use Rattle.eco_netlist.proofs.placing.counted_places.Goals as goal

pub places_of-requires : goal.places_of-requires
places_of-requires c =
    rw (c.as_slice.ensures.value, c.in_ok-counted.ensures)
    (has_kept (λ net. nat_lt 0 (count_in c.args.place (tally_at c.args.tallies.now net.0))) c.args.numbering.now.nets c.args.list.now c.requires.has)

pub returns : goal.returns
returns c =
    subst (λ (list : List NetId). ArePlaced c.args.numbering.now.nets list c.in_ok-places.places.items) (c.as_slice.ensures.value ∙ c.in_ok-counted.ensures) c.in_ok-places.ensures
