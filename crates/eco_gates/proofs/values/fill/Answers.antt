-- One more gate, and at the end all of them.
use Rattle.std.proofs.Common.{◌≡◌, ◌<◌, ◌+◌, ℕ, Bool, Some, length, get_or, set, sym, ◌∙◌, ap, subst, arith}
use Rattle.std.specs.List.{slice_get}
use Rattle.std.proofs.lemmas.Option.{slice_get-get_or}
use Rattle.eco_gates.specs.declared.gate.NetId.{NetId}
use Rattle.eco_gates.specs.GateValue.{GateValue}
use Rattle.eco_lists.proofs.Places.{All_at}
use Rattle.eco_gates.proofs.Running.{IsRunTo, run_more, run_all, consistent_unique}
use Rattle.eco_gates.proofs.values.fill.Goals as goal

pub loop-number-preserved : goal.loop-number-preserved
loop-number-preserved c =
    let k = c.loop-number.number-index in
    let gates = c.args.gates.now in
    let order = c.args.order.now in
    let old = c.args.values.now in
    let values = c.loop-number.values in
    let i = get_or order k 0 in
    let g = c.index-gates-number.result in
    let at_k : slice_get order k ≡ Some i = slice_get-get_or order k 0 (omega arith) in
    let within : i < length gates = All_at (λ (i : ℕ). i < length gates) order k i c.requires.order.numbers at_k in
    let gate_i : slice_get gates i ≡ Some g = slice_get-get_or gates i g within ∙ ap Some (sym c.index-gates-number.is) in
    let more = run_more gates order old values k i g c.requires.within c.requires.once c.requires.order at_k gate_i c.loop-number.invariant in
    let by_bit = subst (λ (bit : Bool). IsRunTo gates order old (k + 1) (set values g.out.0 bit)) (sym c.evaluate-bit.ensures) more in
    subst (λ (out : NetId). IsRunTo gates order old (k + 1) (set values out.0 c.evaluate-bit.result)) (sym (ap (λ (g : GateValue). g.out) c.gate.view_is)) by_bit

pub returns-clause-consistent : goal.returns-clause-consistent
returns-clause-consistent c =
    run_all _ _ c.args.values.now _ _ c.requires.order c.loop-number-test.false c.loop-number.invariant

pub returns-clause-only : goal.returns-clause-only
returns-clause-only c = λ bits same consistent agree.
    let run = c.loop-number.invariant in
    consistent_unique c.args.gates.now c.args.order.now bits c.loop-number.values c.requires.order (same ∙ sym run.len) consistent (run_all _ _ c.args.values.now _ _ c.requires.order c.loop-number-test.false run) (λ net free. agree net free ∙ sym (run.kept net free))
