-- A net has the bit at its place.
use Rattle.std.proofs.Common.{◌≡◌, Some, false, option_map, sym, ◌∙◌, ap}
use Rattle.std.specs.List.{slice_get}
use Rattle.std.proofs.lemmas.Option.{get_or_from_slice_get, slice_get-map}
use Rattle.eco_meaning.specs.Circuit.{names}
use Rattle.eco_netlist.specs.Netlists.{bit_of}
use Rattle.eco_change.proofs.BitLemmas.{bit_of_none}
use Rattle.eco_change.proofs.reading.value_of.Goals as goal

pub returns-in-None : goal.returns-in-None
returns-in-None c = sym (bit_of_none (names c.args.netlist.now) c.args.values.now c.args.name.now c.in-None.ensures)

pub returns-in-Some : goal.returns-in-Some
returns-in-Some c =
    let list = names c.args.netlist.now in
    let bits = c.args.values.now in
    let bit = bit_of list bits in
    let at : slice_get bits c.in-Some.net.0 ≡ Some (bit c.args.name.now) =
    ap (λ l. slice_get l c.in-Some.net.0) (sym c.requires) ∙ slice_get-map bit list c.in-Some.net.0 ∙ ap (option_map bit) c.in-Some.ensures in
    c.bit_at.ensures ∙ get_or_from_slice_get bits c.in-Some.net.0 (bit c.args.name.now) false at
