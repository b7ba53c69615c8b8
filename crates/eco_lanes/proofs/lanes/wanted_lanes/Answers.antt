-- One more output, and at the end all of them.
use Rattle.std.proofs.Common.{◌≡◌, ◌<◌, ◌≤◌, Bool, true, false, not, cond, length, map, take, get_or, refl, sym, ◌∙◌, ap, subst, arith}
use Rattle.std.specs.Prelude.{◌↔◌}
use Rattle.std.specs.List.{slice_index_or}
use Rattle.std.proofs.lemmas.List.{get_or-map, take_all}
use Rattle.eco_gates.specs.declared.gate.NetId.{NetId}
use Rattle.eco_gates.specs.Words.{is_set, lane}
use Rattle.eco_gates.proofs.WordLemmas.{set-all}
use Rattle.eco_lanes.proofs.LaneLemmas.{wanted_more}
use Rattle.eco_lanes.proofs.lanes.wanted_lanes.Goals as goal

pub loop-place-init : goal.loop-place-init
loop-place-init c = λ place lt. (λ e. refl, λ e. set-all place lt)

pub loop-place-preserved : goal.loop-place-preserved
loop-place-preserved c = λ place lt.
    let k = c.loop-place.place in
    let words = c.args.words.now in
    let outputs = c.args.outputs.now in
    let none : NetId = record { 0 = 0 } in
    let net : NetId = get_or outputs k none in
    let bit = get_or c.args.wanted.now k false in
    let inside : k < length outputs = omega arith in
    let within : net.0 < length words = c.requires.within k none inside in
    let here = c.same_lanes-lanes.ensures place lt
    ∙ ap (λ b. cond bit b (not b)) (sym (get_or-map (λ word. is_set word place) words net.0 0 false within)) in
    wanted_more (λ net. slice_index_or (lane words place) net.0 false) outputs c.args.wanted.now k none c.loop-place.lanes c.same_lanes-lanes.result place
    c.requires.count inside (c.loop-place.invariant place lt) here

pub returns : goal.returns
returns c = λ place lt.
    let all : length c.args.outputs.now ≤ c.loop-place.place = omega arith in
    let value : NetId → Bool = λ net. slice_index_or (lane c.args.words.now place) net.0 false in
    let outputs = take_all c.loop-place.place c.args.outputs.now all in
    let wanted = take_all c.loop-place.place c.args.wanted.now (omega (arith, all, c.requires.count)) in
    subst (λ bits. (is_set c.loop-place.lanes place ≡ true) ↔ (map value c.args.outputs.now ≡ bits)) wanted
    (subst (λ list. (is_set c.loop-place.lanes place ≡ true) ↔ (map value list ≡ take c.loop-place.place c.args.wanted.now)) outputs (c.loop-place.invariant place lt))
