-- No net at first, then one more, and at the end all of them.
use Rattle.std.proofs.Common.{◌≡◌, ◌<◌, ◌+◌, ◌*◌, ◌^◌, ◌%◌, ℕ, length, get_or, set, bit_or, sym, ◌∙◌, subst, arith}
use Rattle.std.proofs.lemmas.List.{get_or_default}
use Rattle.std.proofs.lemmas.Option.{slice_get-get_or, slice_get_within}
use Rattle.eco_gates.specs.declared.gate.NetId.{NetId}
use Rattle.eco_lanes.proofs.LaneLemmas.{HasOneNets, no_nets, one_more}
use Rattle.eco_lanes.proofs.lanes.turned_words.Goals as goal

pub loop-place-init : goal.loop-place-init
loop-place-init c = subst (HasOneNets c.args.count c.args.nets.now 0) (sym (c.in_ok-words.ensures.items_if_clones_equal (λ y e. e))) (no_nets c.args.count c.args.nets.now)

pub loop-place-preserved : goal.loop-place-preserved
loop-place-preserved c =
    let k = c.loop-place.place in
    let nets = c.args.nets.now in
    let none : NetId = record { 0 = 0 } in
    let inside : k < length nets = omega arith in
    let words = c.loop-place.words.items in
    let net : NetId = get_or nets k none in
    let more = one_more c.args.count nets k words net (omega (arith, inside, c.requires.few))
    (slice_get-get_or nets k none inside) (c.requires.within k none inside) c.loop-place.invariant in
    let word = c.index.result.now in
    let within : net.0 < length words = omega (arith, c.requires.within k none inside, c.loop-place.invariant.len) in
    let read : word ≡ get_or words net.0 0 = c.index.ensures ∙ get_or_default words net.0 word 0 within in
    subst (λ (word : ℕ). HasOneNets c.args.count nets (k + 1) (set words net.0 (bit_or word (1 * 2 ^ k % 2 ^ 64)))) (sym read) more

pub returns-clause-one : goal.returns-clause-one
returns-clause-one c = λ place net at.
    let inside = slice_get_within c.args.nets.now place net at in
    c.loop-place.invariant.one place net (omega (arith, inside)) at
