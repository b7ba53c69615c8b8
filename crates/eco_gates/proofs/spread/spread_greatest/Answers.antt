-- One more gate, and at the end all of them.
use Rattle.std.proofs.Common.{◌≡◌, ◌<◌, ◌+◌, ◌∙◌, ℕ, Some, length, get_or, set, sym, ap, subst, arith}
use Rattle.std.specs.List.{slice_get}
use Rattle.std.proofs.lemmas.Option.{slice_get-get_or}
use Rattle.eco_gates.specs.declared.gate.NetId.{NetId}
use Rattle.eco_gates.specs.GateValue.{GateValue}
use Rattle.eco_lists.proofs.Places.{All_at}
use Rattle.eco_gates.proofs.Spreading.{IsSpreadTo, spread_none, spread_more, spread_all}
use Rattle.eco_gates.proofs.spread.spread_greatest.Goals as goal

pub loop-number-init : goal.loop-number-init
loop-number-init c = spread_none c.args.gates.now c.args.order.now c.args.numbers.now

pub loop-number-preserved : goal.loop-number-preserved
loop-number-preserved c =
    let k = c.loop-number.number-index in
    let gates = c.args.gates.now in
    let order = c.args.order.now in
    let starts = c.args.numbers.now in
    let numbers = c.loop-number.numbers in
    let i = get_or order k 0 in
    let g = c.index-gates-number.result in
    let at_k : slice_get order k ≡ Some i = slice_get-get_or order k 0 (omega arith) in
    let within : i < length gates = All_at (λ (i : ℕ). i < length gates) order k i c.requires.order.numbers at_k in
    let gate_i : slice_get gates i ≡ Some g = slice_get-get_or gates i g within ∙ ap Some (sym c.index-gates-number.is) in
    let more = spread_more gates order starts k i g numbers c.greatest_at-greatest.result c.requires.within c.requires.order at_k gate_i c.greatest_at-greatest.ensures c.loop-number.invariant in
    subst (λ (out : NetId). IsSpreadTo gates order starts (k + 1) (set numbers out.0 c.greatest_at-greatest.result)) (sym (ap (λ (g : GateValue). g.out) c.gate.view_is)) more

pub returns : goal.returns
returns c =
    spread_all c.args.gates.now c.args.order.now c.args.numbers.now c.loop-number.number-index c.loop-number.numbers c.requires.order (let end = c.loop-number-test.false in omega (arith, end)) c.loop-number.invariant
