use Rattle.std.proofs.Common.{◌≡◌, ◌++◌, map, take}
use Rattle.eco_gen.specs.Drawn.{drawn_gate}
use Rattle.eco_gen.proofs.nets.add_gates.Given as goal

abbrev pub invariant-loop-gate : goal.invariant-loop-gate
invariant-loop-gate l = l.draft ≡ record l.fn.draft {
  gates = l.fn.draft.gates ++ map (drawn_gate l.draws.seed l.draws.size l.targets) (take l.gate-index l.kept);
}
