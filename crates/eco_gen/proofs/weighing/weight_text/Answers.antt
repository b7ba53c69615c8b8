use Rattle.std.proofs.Common.{List, ℕ, sym, subst}
use Rattle.eco_weight.specs.Files.{AreWeights}
use Rattle.eco_gen.specs.Drawn.{drawn_weights}
use Rattle.eco_gen.proofs.Weights.{AreWeights-drawn, text_drawn}
use Rattle.eco_gen.proofs.weighing.weight_text.Goals as goal

pub returns-clause-text : goal.returns-clause-text
returns-clause-text c = λ targets kept.
    text_drawn c.args.draws.now.seed c.args.draws.now.size targets c.args.kept.now c.new-text.result.items c.push_inputs.new.text.items c.push_gates.new.text.items
    kept c.new-text.ensures.items c.in_ok-push_inputs.ensures c.in_ok-push_gates.ensures

pub returns-clause-weights : goal.returns-clause-weights
returns-clause-weights c = λ targets numbers kept.
    subst (λ (text : List ℕ). AreWeights text (drawn_weights c.args.draws.now.seed c.args.draws.now.size targets)) (sym (returns-clause-text c targets kept))
    (AreWeights-drawn c.args.draws.now.seed c.args.draws.now.size targets numbers)
