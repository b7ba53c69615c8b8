use Rattle.std.proofs.Common.{◌≡◌, ◌++◌, map}
use Rattle.std.specs.List.{range_with_len}
use Rattle.eco_gen.specs.Drawn.{port_gate}
use Rattle.eco_gen.proofs.nets.add_port_gates.Given as goal

abbrev pub invariant-loop-port : goal.invariant-loop-port
invariant-loop-port l = l.draft ≡ record l.fn.draft {
  gates = l.fn.draft.gates ++ map (port_gate l.draws.seed l.draws.size l.targets) (range_with_len 0 l.port);
}
