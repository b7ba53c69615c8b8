use Rattle.std.proofs.Common.{◌≡◌, ◌+◌, ◌++◌, map, get_or}
use Rattle.std.specs.List.{range_with_len}
use Rattle.eco_gen.specs.declared.TheConstants.{INPUTS}
use Rattle.eco_gen.specs.Drawn.{drawn_weight, gate_name}
use Rattle.eco_gen.specs.Lines.{weight_text}
use Rattle.eco_gen.proofs.weighing.push_gates.Given as goal

abbrev pub invariant-loop-place : goal.invariant-loop-place
invariant-loop-place l =
    l.text.items ≡ l.fn.text.items
    ++ weight_text (map (λ k. (gate_name (get_or l.gates k 0), drawn_weight l.draws.seed l.draws.size (INPUTS + k))) (range_with_len 0 l.place))
