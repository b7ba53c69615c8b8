-- The nets that are taken go to the input.
use Rattle.std.proofs.Common.{Bool, List, [], ◌∷◌, arith, refl, sym, subst}
use Rattle.std.specs.List.{All}
use Rattle.std.proofs.lemmas.Bool.{eqb-true}
use Rattle.eco_meaning.specs.Circuit.{names}
use Rattle.eco_meaning.specs.Meaning.{IsWrong}
use Rattle.eco_choices.specs.Choices.{IsWrongBut}
use Rattle.eco_netlist.specs.Netlists.{name_at}
use Rattle.eco_gates.specs.declared.gate.NetId.{NetId}
use Rattle.eco_locate.specs.declared.answer.Excluding.{Excluding}
use Rattle.eco_locate.proofs.JudgedLemmas.{goes_nowhere, goes_excluded}
use Rattle.eco_locate.proofs.sifting.exclude_by.Goals as goal

pub returns-then-is_empty : goal.returns-then-is_empty
returns-then-is_empty c limit is =
    let nets = c.in_ok-nets.nets in
    let none = eqb-true nets.len 0 (sym c.if-is_empty.ensures) in
    goes_nowhere c.args.change.now.old c.args.change.now.goal limit c.args.progress.now.left.items c.taken_at.new.left.items nets.items c.args.progress.now.located c.in_ok-nets.ensures.joint (omega (arith, none, nets.ok.0)) is

pub returns : goal.returns
returns c limit is =
    let f = c.args.change.now.old in
    let asked = c.args.change.now.goal in
    let nets = c.in_ok-nets.nets in
    let before = c.args.progress.now.located in
    let new : Excluding = record { input = c.in_ok-input.input; nets = nets } in
    goes_excluded f asked limit before (record before { excluding = c.push.new.self }) c.args.progress.now.left.items c.taken_at.new.left.items new c.in_ok-nets.ensures.joint refl refl c.in_ok-push.ensures.items
    (record {
      wrong = subst (IsWrong f asked) (sym c.in_ok-input.ensures.same) c.requires.failing.wrong;
      still = subst (λ (x : List Bool). All (λ (net : NetId). IsWrongBut f asked (name_at (names f) net.0 ∷ []) x) nets.items) (sym c.in_ok-input.ensures.same) c.in_ok-nets.ensures.still;
    })
    is
