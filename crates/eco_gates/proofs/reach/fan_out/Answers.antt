-- One more gate, and at the end all of them.
use Rattle.std.proofs.Common.{◌≡◌, ◌<◌, ◌+◌, ◌∙◌, ℕ, Some, length, get_or, set, sym, ap, subst, arith}
use Rattle.std.specs.List.{slice_get}
use Rattle.std.proofs.lemmas.Option.{slice_get-get_or}
use Rattle.eco_gates.specs.declared.gate.NetId.{NetId}
use Rattle.eco_gates.specs.GateValue.{GateValue}
use Rattle.eco_lists.proofs.Places.{All_at}
use Rattle.eco_gates.proofs.Reaching.{IsReachedTo, reached_none, reached_more, reached_all}
use Rattle.eco_gates.proofs.reach.fan_out.Goals as goal

pub loop-number-init : goal.loop-number-init
loop-number-init c = reached_none c.args.gates.now c.args.order.now c.args.nets c.args.from.now c.in_ok-marks.marks.items c.in_ok-marks.ensures.marked

pub loop-number-preserved : goal.loop-number-preserved
loop-number-preserved c =
    let k = c.loop-number.number-index in
    let gates = c.args.gates.now in
    let order = c.args.order.now in
    let marks = c.loop-number.marks.items in
    let i = get_or order k 0 in
    let g = c.index-gates-number.result in
    let at_k : slice_get order k ≡ Some i = slice_get-get_or order k 0 (omega arith) in
    let within : i < length gates = All_at (λ (i : ℕ). i < length gates) order k i c.requires.order.numbers at_k in
    let gate_i : slice_get gates i ≡ Some g = slice_get-get_or gates i g within ∙ ap Some (sym c.index-gates-number.is) in
    let mark_is = rw c.as_slice.ensures.value at c.mark_after-mark.ensures in
    let more = reached_more gates order c.args.nets c.args.from.now k i g marks c.mark_after-mark.result c.requires.within c.requires.order at_k gate_i mark_is c.loop-number.invariant in
    subst (λ (out : NetId). IsReachedTo gates order c.args.nets c.args.from.now (k + 1) (set marks out.0 c.mark_after-mark.result)) (sym (ap (λ (g : GateValue). g.out) c.gate.view_is)) more

pub returns-clause-fan_out : goal.returns-clause-fan_out
returns-clause-fan_out c =
    reached_all c.args.gates.now c.args.order.now c.args.nets c.args.from.now c.loop-number.number-index c.loop-number.marks.items c.requires.order (let end = c.loop-number-test.false in omega (arith, end)) c.loop-number.invariant
