use Rattle.std.proofs.Common.{◌≡◌, ◌+◌, ◌++◌, map}
use Rattle.std.specs.List.{range_with_len}
use Rattle.eco_gen.specs.declared.TheConstants.{INPUTS}
use Rattle.eco_gen.specs.Drawn.{signal_name}
use Rattle.eco_gen.proofs.nets.add_wires.Given as goal

abbrev pub invariant-loop-gate : goal.invariant-loop-gate
invariant-loop-gate l = l.draft ≡ record l.fn.draft {
  wires = l.fn.draft.wires ++ map (λ j. signal_name l.size l.targets (INPUTS + j)) (range_with_len 0 l.gate);
}
