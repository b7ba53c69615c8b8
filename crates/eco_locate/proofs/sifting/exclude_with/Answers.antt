-- The net and those that are taken go to the input.
use Rattle.std.proofs.Common.{List, [], ◌∷◌, ◌++◌, refl, sym, subst}
use Rattle.std.specs.List.{All}
use Rattle.std.proofs.lemmas.List.Elements.{All-append, All-cons, All-nil}
use Rattle.eco_meaning.specs.Circuit.{names}
use Rattle.eco_choices.specs.Choices.{IsWrongBut}
use Rattle.eco_netlist.specs.Netlists.{name_at}
use Rattle.eco_gates.specs.declared.gate.NetId.{NetId}
use Rattle.eco_locate.specs.declared.answer.Excluding.{Excluding}
use Rattle.eco_locate.specs.Moves.{IsJoint}
use Rattle.eco_locate.proofs.MoveLemmas.{joint_append, joint_both}
use Rattle.eco_locate.proofs.JudgedLemmas.{goes_excluded}
use Rattle.eco_locate.proofs.sifting.exclude_with.Goals as goal

pub returns-clause-judged : goal.returns-clause-judged
returns-clause-judged c limit is =
    let f = c.args.change.now.old in
    let asked = c.args.change.now.goal in
    let net = c.args.net in
    let one : List NetId = net ∷ [] in
    let taken = c.in_ok-nets.nets.items in
    let left = c.args.progress.now.left.items in
    let rest = c.taken_by.new.left.items in
    let before = c.args.progress.now.located in
    let new : Excluding = record { input = c.args.input; nets = c.push.new.self } in
    let Still : NetId → Type 0 = λ net. IsWrongBut f asked (name_at (names f) net.0 ∷ []) c.args.input in
    let from = joint_both rest taken left one (left ++ one) c.in_ok-nets.ensures.joint (joint_append left one) in
    goes_excluded f asked limit before (record before { excluding = c.push-2.new.self }) (left ++ one) rest new
    (subst (λ (nets : List NetId). IsJoint rest nets (left ++ one)) (sym c.in_ok-push.ensures.items) from) refl refl c.in_ok-push-2.ensures.items
    (record {
      wrong = c.requires.wrong;
      still = subst (All Still) (sym c.in_ok-push.ensures.items) (All-append Still taken one c.in_ok-nets.ensures.still (All-cons Still net [] c.requires.still (All-nil Still)));
    })
    is
