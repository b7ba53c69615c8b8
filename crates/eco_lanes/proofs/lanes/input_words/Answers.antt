-- No input at first, and then one more.
use Rattle.std.proofs.Common.{◌≡◌, ◌<◌, ◌+◌, false, Some, length, get_or, set, sym, ◌∙◌, ap, subst, arith}
use Rattle.std.specs.List.{slice_get}
use Rattle.std.proofs.lemmas.Option.{slice_get-get_or}
use Rattle.eco_gates.specs.declared.gate.NetId.{NetId}
use Rattle.eco_gates.specs.Words.{lane}
use Rattle.eco_gates.proofs.WordLemmas.{lane-set}
use Rattle.eco_netlist.specs.Values.{HasInputBits}
use Rattle.eco_lanes.proofs.LaneLemmas.{no_bits, no_input, input_more}
use Rattle.eco_lanes.proofs.lanes.input_words.Goals as goal

pub loop-place-init : goal.loop-place-init
loop-place-init c = λ place lt.
    subst (HasInputBits c.args.nets c.args.inputs.now c.args.input.now 0)
    (sym (ap (λ words. lane words place) (c.in_ok-words.ensures.items_if_clones_equal (λ y e. e)) ∙ no_bits c.args.nets place))
    (no_input c.args.nets c.args.inputs.now c.args.input.now)

pub loop-place-preserved : goal.loop-place-preserved
loop-place-preserved c = λ place lt.
    let k = c.loop-place.place in
    let inputs = c.args.inputs.now in
    let input = c.args.input.now in
    let none : NetId = record { 0 = 0 } in
    let net : NetId = get_or inputs k none in
    let words = c.loop-place.words.items in
    let inside : k < length inputs = omega arith in
    let bit : slice_get input k ≡ Some (get_or input k false) = slice_get-get_or input k false (omega (arith, inside, c.requires.count)) in
    let more = input_more c.args.nets inputs input (lane words place) k net (get_or input k false) c.requires.apart
    (slice_get-get_or inputs k none inside) (c.requires.within k none inside) bit (c.loop-place.invariant place lt) in
    subst (HasInputBits c.args.nets inputs input (k + 1))
    (sym (lane-set words net.0 c.all_lanes.result place ∙ ap (set (lane words place) net.0) (c.all_lanes.ensures place lt))) more
