-- What is taken stays wrong.
use Rattle.std.proofs.Common.{List, subst}
use Rattle.eco_meaning.specs.Circuit.{Circuit, IsTarget}
use Rattle.eco_gates.specs.declared.gate.NetId.{NetId}
use Rattle.eco_locate.specs.Moves.{IsJoint}
use Rattle.eco_locate.proofs.SiftedLemmas.{sifted_at, sifted_joint, sifted_still}
use Rattle.eco_locate.proofs.sifting.taken_at.Goals as goal

pub sift-requires-clause-closed : goal.sift-requires-clause-closed
sift-requires-clause-closed c = λ name is. c.old.ensures.change.closed name (subst (λ (n : Circuit). IsTarget n name) c.old.ensures.value is)

pub returns-clause-joint : goal.returns-clause-joint
returns-clause-joint c =
    let left = c.in_ok-sifted.sifted.left.items in
    let taken = c.in_ok-sifted.sifted.taken.items in
    subst (λ (nets : List NetId). IsJoint left taken nets) c.as_slice-3.ensures.value
    (sifted_joint c.old.result.now c.as_slice.result.now c.as_slice-2.result.now c.as_slice-3.result.now left taken c.in_ok-sifted.ensures)

pub returns-clause-still : goal.returns-clause-still
returns-clause-still c =
    let f = c.args.change.now.old in
    let nets = c.as_slice-3.result.now in
    let left = c.in_ok-sifted.sifted.left.items in
    let taken = c.in_ok-sifted.sifted.taken.items in
    sifted_still f c.args.change.now.goal c.args.input.now c.args.wanted.now nets left taken c.old.ensures.change c.requires.wrong c.requires.wanted
    (sifted_at f c.old.result.now c.args.input.now c.as_slice.result.now c.args.wanted.now c.as_slice-2.result.now nets left taken c.old.ensures.value c.as_slice.ensures c.as_slice-2.ensures c.in_ok-sifted.ensures)
