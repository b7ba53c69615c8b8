-- The nets that are taken go to the input.
use Rattle.std.proofs.Common.{Bool, List, [], ◌∷◌, arith, refl, sym, subst}
use Rattle.std.specs.List.{All}
use Rattle.std.proofs.lemmas.Bool.{eqb-true}
use Rattle.eco_meaning.specs.Circuit.{names}
use Rattle.eco_meaning.specs.Meaning.{IsWrong}
use Rattle.eco_choices.specs.Choices.{IsWrongBut}
use Rattle.eco_netlist.specs.Netlists.{name_at}
use Rattle.eco_gates.specs.declared.gate.NetId.{NetId}
use Rattle.eco_locate.specs.declared.answer.Excluding.{Excluding}
use Rattle.eco_locate.specs.declared.covering.Cover.{Cover}
use Rattle.eco_locate.proofs.CoverLemmas.{cover_goes, cover_stays}
use Rattle.eco_locate.proofs.covering.cover_by.Goals as goal

pub returns-then-is_empty : goal.returns-then-is_empty
returns-then-is_empty c all is =
    let nets = c.in_ok-nets.nets in
    let none = eqb-true nets.len 0 (sym c.if-is_empty.ensures) in
    let before = c.args.cover.now in
    cover_stays c.args.change.now.old c.args.change.now.goal all c.taken_by.new.left.items nets.items before (record before { left = c.taken_by.new.left }) c.in_ok-nets.ensures.joint (omega (arith, none, nets.ok.0)) refl refl is

pub returns : goal.returns
returns c all is =
    let f = c.args.change.now.old in
    let asked = c.args.change.now.goal in
    let nets = c.in_ok-nets.nets in
    let before = c.args.cover.now in
    let new : Excluding = record { input = c.in_ok-input.input; nets = nets } in
    let after : Cover = record { left = c.taken_by.new.left; excluding = c.push.new.self } in
    cover_goes f asked all c.taken_by.new.left.items before after new c.in_ok-nets.ensures.joint refl c.in_ok-push.ensures.items
    (record {
      wrong = subst (IsWrong f asked) (sym c.in_ok-input.ensures.same) c.requires.excludes.wrong;
      still = subst (λ (x : List Bool). All (λ (net : NetId). IsWrongBut f asked (name_at (names f) net.0 ∷ []) x) nets.items) (sym c.in_ok-input.ensures.same) c.in_ok-nets.ensures.still;
    })
    is
