-- The net has the name, and its place in the table is the name's.
use Rattle.std.proofs.Common.{get_or}
use Rattle.std.proofs.lemmas.Option.{slice_get-get_or}
use Rattle.eco_meaning.specs.Circuit.{names}
use Rattle.eco_netlist.proofs.NameSets.{absent_from_has}
use Rattle.eco_aig.specs.Edges.{plain}
use Rattle.eco_compile.proofs.ByName.{value_at_name, place_in_table}
use Rattle.eco_compile.proofs.bound.edge_by_name.Goals as goal

pub unreachable-requires : goal.unreachable-requires
unreachable-requires c = absent_from_has (names c.args.to.now) c.args.name.now c.in-None.ensures c.requires.named

pub returns-clause-within : goal.returns-clause-within
returns-clause-within c = λ nodes are.
    are c.in-Some.net.0 (plain 0) (place_in_table c.args.to.now c.args.table.now c.in-Some.net.0 c.args.name.now c.requires.count c.in-Some.ensures)

pub returns-clause-value : goal.returns-clause-value
returns-clause-value c = λ w.
    let n = c.args.to.now in
    let table = c.args.table.now in
    let net = c.in-Some.net.0 in
    let name = c.args.name.now in
    let lt = place_in_table n table net name c.requires.count c.in-Some.ensures in
    value_at_name n w table net name (get_or table net (plain 0)) c.nets.ensures.checked.distinct c.requires.count c.in-Some.ensures (slice_get-get_or table net (plain 0) lt)
