-- One more net.
use Rattle.eco_gates.specs.declared.gate.NetId.{NetId}
use Rattle.eco_meaning.specs.Circuit.{names}
use Rattle.eco_equality.proofs.Naming.{known_name, found_more}
use Rattle.eco_equality.proofs.numbering.literals_by_name.Goals as goal

pub literal_by_name-requires-clause-known : goal.literal_by_name-requires-clause-known
literal_by_name-requires-clause-known c =
    let none : NetId = record { 0 = 0 } in
    known_name (names c.args.netlist.now) (names c.args.other.now) c.args.nets.now c.loop-net.net-index none c.name_of.result.now c.loop-net-test.true c.name_of.ensures c.requires.known

pub loop-net-preserved : goal.loop-net-preserved
loop-net-preserved c =
    λ literal named.
    let none : NetId = record { 0 = 0 } in
    found_more (names c.args.netlist.now) literal c.args.nets.now c.loop-net.net-index none c.name_of.result.now c.loop-net.found.items c.push.new.self.items c.literal_by_name.result c.loop-net-test.true c.name_of.ensures (c.loop-net.invariant literal named) (c.literal_by_name.ensures literal named) c.in_ok-push.ensures.items
