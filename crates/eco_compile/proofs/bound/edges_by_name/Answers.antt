-- One more net, and at the end all of them.
use Rattle.std.specs.List.{Contains}
use Rattle.eco_meaning.specs.Circuit.{names}
use Rattle.eco_gates.specs.declared.gate.NetId.{NetId}
use Rattle.eco_compile.proofs.ByName.{at_each_name, found_more, found_all}
use Rattle.eco_compile.proofs.bound.edges_by_name.Goals as goal

pub edge_by_name-requires-clause-named : goal.edge_by_name-requires-clause-named
edge_by_name-requires-clause-named c =
    let none : NetId = record { 0 = 0 } in
    at_each_name (Contains (names c.args.to.now)) (names c.args.from.now) c.args.nets.now c.loop-net.net-index none c.name_of.result.now c.loop-net-test.true c.name_of.ensures c.requires.named

pub loop-net-preserved : goal.loop-net-preserved
loop-net-preserved c =
    let none : NetId = record { 0 = 0 } in
    found_more (names c.args.from.now) c.args.nets.now c.args.to.now c.args.table.now c.loop-net.edges.items c.push.new.self.items c.loop-net.net-index none c.name_of.result.now c.edge_by_name.result c.loop-net-test.true c.name_of.ensures c.in_ok-push.ensures.items c.edge_by_name.ensures.within c.edge_by_name.ensures.value c.loop-net.invariant

pub returns-clause-values : goal.returns-clause-values
returns-clause-values c =
    found_all (names c.args.from.now) c.args.nets.now c.args.to.now c.args.table.now c.loop-net.net-index c.loop-net.edges.items c.loop-net-test.false c.loop-net.invariant
