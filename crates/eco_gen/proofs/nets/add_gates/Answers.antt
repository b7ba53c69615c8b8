use Rattle.std.proofs.Common.{◌<◌, ◌∷◌, [], get_or, length, append_assoc, take}
use Rattle.std.proofs.lemmas.List.{map-append}
use Rattle.std.proofs.lemmas.List.{take_more}
use Rattle.eco_gen.specs.Drawn.{drawn_gate, kept_gates}
use Rattle.eco_gen.proofs.Structure.{kept_at}
use Rattle.eco_gen.proofs.nets.add_gates.Goals as goal

pub add_gate-requires-clause-gate : goal.add_gate-requires-clause-gate
add_gate-requires-clause-gate c =
    let size = c.args.draws.now.size in
    let within : c.loop-gate.gate-index < length (kept_gates size c.args.targets) = rw c.requires.kept at c.loop-gate-test.true in
    rw c.requires.kept (kept_at size c.args.targets c.loop-gate.gate-index within)

pub loop-gate-preserved : goal.loop-gate-preserved
loop-gate-preserved c =
    let make = drawn_gate c.args.draws.now.seed c.args.draws.now.size c.args.targets in
    let kept = c.args.kept.now in
    let at = c.loop-gate.gate-index in
    let more = take_more kept at 0 c.loop-gate-test.true in
    let mapped = map-append make (take at kept) (get_or kept at 0 ∷ []) in
    rw (c.in_ok-add_gate.ensures, c.loop-gate.invariant, more, mapped) (simp append_assoc)
