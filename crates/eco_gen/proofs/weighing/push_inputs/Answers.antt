use Rattle.std.proofs.Common.{refl}
use Rattle.std.proofs.lemmas.List.{append-nil}
use Rattle.eco_gen.specs.Drawn.{drawn_weight, input_name}
use Rattle.eco_gen.proofs.WeightTexts.{text_none, text_pushed}
use Rattle.eco_gen.proofs.weighing.push_inputs.Goals as goal

pub loop-number-init : goal.loop-number-init
loop-number-init c =
    let none = text_none (λ k. (input_name k, drawn_weight c.args.draws.now.seed c.args.draws.now.size k)) in
    rw (none, append-nil) refl

pub loop-number-preserved : goal.loop-number-preserved
loop-number-preserved c =
    text_pushed (λ k. (input_name k, drawn_weight c.args.draws.now.seed c.args.draws.now.size k)) c.loop-number.number
    c.args.text.now.items c.loop-number.text.items c.push_line.new.text.items
    c.loop-number.invariant (rw c.weight.ensures at c.in_ok-push_line.ensures)
