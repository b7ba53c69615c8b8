use Rattle.std.proofs.Common.{◌≡◌, ◌++◌, map}
use Rattle.std.specs.List.{range_with_len}
use Rattle.eco_gen.specs.Drawn.{drawn_weight, input_name}
use Rattle.eco_gen.specs.Lines.{weight_text}
use Rattle.eco_gen.proofs.weighing.push_inputs.Given as goal

abbrev pub invariant-loop-number : goal.invariant-loop-number
invariant-loop-number l =
    l.text.items ≡ l.fn.text.items
    ++ weight_text (map (λ k. (input_name k, drawn_weight l.draws.seed l.draws.size k)) (range_with_len 0 l.number))
