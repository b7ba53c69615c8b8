-- One more gate, and at the end all of them, at each place of the words.
use Rattle.std.proofs.Common.{◌≡◌, ◌<◌, ◌+◌, ℕ, Bool, List, Some, length, get_or, set, sym, ◌∙◌, ap, subst, arith}
use Rattle.std.specs.List.{slice_get}
use Rattle.std.proofs.lemmas.List.{length-map}
use Rattle.std.proofs.lemmas.Option.{slice_get-get_or}
use Rattle.eco_gates.specs.declared.gate.NetId.{NetId}
use Rattle.eco_gates.specs.GateValue.{GateValue}
use Rattle.eco_gates.specs.Gates.{IsWithin}
use Rattle.eco_gates.specs.Words.{is_set, lane}
use Rattle.eco_lists.proofs.Places.{All_at}
use Rattle.eco_gates.proofs.Running.{IsRunTo, run_more, run_all, consistent_unique}
use Rattle.eco_gates.proofs.WordLemmas.{lane-set}
use Rattle.eco_gates.proofs.words.fill_words.Goals as goal

pub loop-number-preserved : goal.loop-number-preserved
loop-number-preserved c = λ place lt.
    let k = c.loop-number.number-index in
    let gates = c.args.gates.now in
    let order = c.args.order.now in
    let old = lane c.args.words.now place in
    let values = lane c.loop-number.words place in
    let i = get_or order k 0 in
    let g = c.index-gates-number.result in
    let at_k : slice_get order k ≡ Some i = slice_get-get_or order k 0 (omega arith) in
    let within : i < length gates = All_at (λ (i : ℕ). i < length gates) order k i c.requires.order.numbers at_k in
    let gate_i : slice_get gates i ≡ Some g = slice_get-get_or gates i g within ∙ ap Some (sym c.index-gates-number.is) in
    let room : IsWithin (length old) gates =
    subst (λ (n : ℕ). IsWithin n gates) (sym (length-map c.args.words.now (λ word. is_set word place))) c.requires.within in
    let more = run_more gates order old values k i g room c.requires.once c.requires.order at_k gate_i (c.loop-number.invariant place lt) in
    let by_bit = subst (λ (bit : Bool). IsRunTo gates order old (k + 1) (set values g.out.0 bit)) (sym (c.evaluate-word.ensures place lt)) more in
    let by_out = subst (λ (out : NetId). IsRunTo gates order old (k + 1) (set values out.0 (is_set c.evaluate-word.result place))) (sym (ap (λ (g : GateValue). g.out) c.gate.view_is)) by_bit in
    subst (λ (bits : List Bool). IsRunTo gates order old (k + 1) bits) (sym (lane-set c.loop-number.words c.gate.inside.out.0 c.evaluate-word.result place)) by_out

pub returns-clause-consistent : goal.returns-clause-consistent
returns-clause-consistent c = λ place lt.
    run_all c.args.gates.now c.args.order.now (lane c.args.words.now place) (lane c.loop-number.words place) c.loop-number.number-index
    c.requires.order c.loop-number-test.false (c.loop-number.invariant place lt)

pub returns-clause-only : goal.returns-clause-only
returns-clause-only c = λ place lt bits same consistent agree.
    let gates = c.args.gates.now in
    let order = c.args.order.now in
    let old = lane c.args.words.now place in
    let values = lane c.loop-number.words place in
    let run = c.loop-number.invariant place lt in
    consistent_unique gates order bits values c.requires.order
    (same ∙ sym (length-map c.args.words.now (λ word. is_set word place)) ∙ sym run.len)
    consistent (run_all gates order old values c.loop-number.number-index c.requires.order c.loop-number-test.false run)
    (λ net free. agree net free ∙ sym (run.kept net free))
