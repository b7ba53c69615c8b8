use Rattle.std.proofs.Common.{◌+◌, get_or, refl}
use Rattle.std.proofs.lemmas.List.{append-nil}
use Rattle.eco_gen.specs.declared.TheConstants.{INPUTS}
use Rattle.eco_gen.specs.Drawn.{drawn_weight, gate_name}
use Rattle.eco_gen.proofs.WeightTexts.{text_none, text_pushed}
use Rattle.eco_gen.proofs.weighing.push_gates.Goals as goal

pub loop-place-init : goal.loop-place-init
loop-place-init c =
    let none = text_none (λ k. (gate_name (get_or c.args.gates.now k 0), drawn_weight c.args.draws.now.seed c.args.draws.now.size (INPUTS + k))) in
    rw (none, append-nil) refl

pub loop-place-preserved : goal.loop-place-preserved
loop-place-preserved c =
    text_pushed (λ k. (gate_name (get_or c.args.gates.now k 0), drawn_weight c.args.draws.now.seed c.args.draws.now.size (INPUTS + k))) c.loop-place.place
    c.args.text.now.items c.loop-place.text.items c.push_line.new.text.items
    c.loop-place.invariant (rw c.weight.ensures at c.in_ok-push_line.ensures)
