use Rattle.std.proofs.Common.{◌<◌, length, append_assoc, arith}
use Rattle.std.proofs.lemmas.List.FromFn.{map-range_with_len_more}
use Rattle.eco_gen.specs.Drawn.{port_gate, unread_gates}
use Rattle.eco_gen.proofs.Structure.{unread_below}
use Rattle.eco_gen.proofs.nets.add_port_gates.Goals as goal

pub overflow_add-gate : goal.overflow_add-gate
overflow_add-gate c =
    let seed = c.args.draws.now.seed in
    let size = c.args.draws.now.size in
    let few = c.requires.numbers.few_gates in
    let within : c.loop-port.port < length (unread_gates seed size) = rw c.requires.unread at c.loop-port-test.true in
    let below = unread_below seed size c.loop-port.port within in
    rw c.requires.unread (omega (arith, below, few))

pub loop-port-preserved : goal.loop-port-preserved
loop-port-preserved c =
    let more = map-range_with_len_more (port_gate c.args.draws.now.seed c.args.draws.now.size c.args.targets) 0 c.loop-port.port c.loop-port.port (omega arith) in
    rw (c.in_ok-add_port_gate.ensures, c.loop-port.invariant, c.in_ok-signal.ensures, c.requires.unread, more) (simp append_assoc)
