use Rattle.std.proofs.Common.{sym, ◌∙◌, ap}
use Rattle.eco_meaning.specs.Names.{has}
use Rattle.eco_meaning.specs.Circuit.{names}
use Rattle.eco_query.proofs.CareLemmas.{no_input}
use Rattle.eco_query.proofs.UnlikeLemmas.{name_at-from_slice_get}
use Rattle.eco_query.proofs.inputs.has_input.Goals as goal

pub returns-in-None : goal.returns-in-None
returns-in-None c = sym (no_input c.args.netlist.now c.args.name.now c.requires c.in-None.ensures)

pub returns-in-Some : goal.returns-in-Some
returns-in-Some c =
    let n = c.args.netlist.now in
    c.is_input.ensures ∙ ap (has n.inputs) (name_at-from_slice_get (names n) c.in-Some.net.0 c.args.name.now c.in-Some.ensures)
