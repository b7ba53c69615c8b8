-- A net has the bit at its place.
use Rattle.std.proofs.Common.{false, sym, ◌∙◌}
use Rattle.std.proofs.lemmas.Option.{get_or_from_slice_get}
use Rattle.eco_meaning.specs.Circuit.{names}
use Rattle.eco_netlist.specs.Netlists.{bit_of}
use Rattle.eco_netlist.proofs.NameSets.{absent_from_has}
use Rattle.eco_audit.proofs.NetValues.{bit_absent, bit_there}
use Rattle.eco_audit.proofs.filling.value_of.Goals as goal

pub returns-in-None : goal.returns-in-None
returns-in-None c =
    sym (bit_absent (names c.args.out.now) c.args.values.now c.args.name.now (absent_from_has (names c.args.out.now) c.args.name.now c.in-None.ensures))

pub returns-in-Some : goal.returns-in-Some
returns-in-Some c =
    let list = names c.args.out.now in
    let bits = c.args.values.now in
    c.bit_at.ensures
    ∙ get_or_from_slice_get bits c.in-Some.net.0 (bit_of list bits c.args.name.now) false (bit_there list bits c.in-Some.net.0 c.args.name.now c.requires c.in-Some.ensures)
