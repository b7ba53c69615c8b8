-- One more gate, and at the end all of them.
use Rattle.std.proofs.Common.{◌≡◌, ◌<◌, ◌+◌, ◌-◌, ◌∙◌, ℕ, Some, length, get_or, sym, ap, subst, arith}
use Rattle.std.specs.List.{slice_get}
use Rattle.std.proofs.lemmas.Option.{slice_get-get_or}
use Rattle.eco_lists.proofs.Places.{All_at}
use Rattle.eco_gates.proofs.Spreading.{IsSpreadFrom, spread_from_none, spread_from_more, spread_from_all}
use Rattle.eco_gates.proofs.spread.spread_least.Goals as goal

pub loop-place-init : goal.loop-place-init
loop-place-init c = spread_from_none c.args.gates.now c.args.order.now c.args.numbers.now

pub loop-place-preserved : goal.loop-place-preserved
loop-place-preserved c =
    let k = c.loop-place.place - 1 in
    let gates = c.args.gates.now in
    let order = c.args.order.now in
    let ends = c.args.numbers.now in
    let numbers = c.loop-place.numbers in
    let i = get_or order k 0 in
    let g = c.index-gates-order.result in
    let bound = c.loop-place.auto.place in
    let test = c.loop-place-test.true in
    let at_k : slice_get order k ≡ Some i = slice_get-get_or order k 0 (omega (arith, bound, test)) in
    let within : i < length gates = All_at (λ (i : ℕ). i < length gates) order k i c.requires.order.numbers at_k in
    let gate_i : slice_get gates i ≡ Some g = slice_get-get_or gates i g within ∙ ap Some (sym c.index-gates-order.is) in
    let later : k + 1 ≡ c.loop-place.place = omega (arith, test) in
    let before = subst (λ (n : ℕ). IsSpreadFrom gates order ends n numbers) (sym later) c.loop-place.invariant in
    spread_from_more gates order ends k i g numbers c.lower_inputs.new.numbers c.requires.within c.requires.order at_k gate_i c.lower_inputs.ensures before

pub returns : goal.returns
returns c =
    let end = c.loop-place-test.false in
    let zero : c.loop-place.place ≡ 0 = omega (arith, end) in
    spread_from_all c.args.gates.now c.args.order.now c.args.numbers.now c.loop-place.numbers c.requires.order (subst (λ (n : ℕ). IsSpreadFrom c.args.gates.now c.args.order.now c.args.numbers.now n c.loop-place.numbers) zero c.loop-place.invariant)
