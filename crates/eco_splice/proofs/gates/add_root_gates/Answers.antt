use Rattle.std.proofs.Common.{◌≡◌, [], sym, false, get_or, take, refl, append_assoc, arith}
use Rattle.std.proofs.lemmas.List.{take_more, map-append, length-map, length-take-le}
use Rattle.std.proofs.lemmas.Option.{get_or_from_slice_get}
use Rattle.eco_meaning.specs.Circuit.{names}
use Rattle.eco_netlist.specs.Netlists.{name_at, names_at}
use Rattle.eco_netlist.proofs.NetNames.{names_at_take}
use Rattle.eco_splice.proofs.GraphValues.{zip_push}
use Rattle.eco_splice.proofs.gates.add_root_gates.Goals as goal

pub loop-place-preserved : goal.loop-place-preserved
loop-place-preserved c =
    let list = names c.args.frame.now.f.now in
    let targets = c.args.frame.now.targets.now in
    let roots = c.args.roots.now in
    let i = c.loop-place.place in
    let count = c.requires.count in
    let net = get_or targets i (record { 0 = 0 }) in
    let name : c.name_of-target.result.now ≡ name_at list net.0 = sym (get_or_from_slice_get list net.0 _ [] c.name_of-target.ensures) in
    let more_targets = names_at_take list targets i (record { 0 = 0 }) (omega arith) in
    let more_roots = take_more roots i (record { node = 0; complemented = false }) (omega arith) in
    let left = length-take-le i targets (omega arith) in
    let right = length-take-le i roots (omega arith) in
    let named = length-map (take i targets) (λ net. name_at list net.0) in
    let push = zip_push (names_at list (take i targets)) (take i roots) (name_at list (get_or targets i (record { 0 = 0 })).0) (get_or roots i (record { node = 0; complemented = false })) (omega arith) in
    rw (c.in_ok-add_root_gate.ensures, name, c.loop-place.invariant, more_targets, more_roots, push, map-append, append_assoc) refl
