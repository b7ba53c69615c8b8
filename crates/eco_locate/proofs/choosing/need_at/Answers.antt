-- The others can be cut, and their names are the nets' names but one.
use Rattle.std.proofs.Common.{◌≡◌, sym, ◌∙◌, ap, subst}
use Rattle.std.specs.List.{remove}
use Rattle.std.proofs.lemmas.Result.{IfOk-weaker}
use Rattle.eco_meaning.specs.Circuit.{names}
use Rattle.eco_gates.specs.declared.gate.NetId.{NetId}
use Rattle.eco_netlist.specs.Netlists.{names_at}
use Rattle.eco_locate.specs.Chosen.{TellsNeed}
use Rattle.eco_locate.proofs.ChosenLemmas.{others_can_be_cut, others_named}
use Rattle.eco_locate.proofs.choosing.need_at.Goals as goal

pub need_besides-requires-clause-nets : goal.need_besides-requires-clause-nets
need_besides-requires-clause-nets g c =
    others_can_be_cut c.args.change.now.old c.args.nets.now c.as_slice.result.now c.args.place (c.as_slice.ensures.value ∙ c.in_ok-others.ensures) c.requires.place c.requires.nets

pub returns : goal.returns
returns g c =
    let f = c.args.change.now.old in
    let asked = c.args.change.now.goal in
    let same = others_named f c.args.nets.now c.as_slice.result.now c.args.place (c.as_slice.ensures.value ∙ c.in_ok-others.ensures) in
    IfOk-weaker c.need_besides.result (TellsNeed f asked c.args.limit (names_at (names f) c.as_slice.result.now)) (TellsNeed f asked c.args.limit (remove (names_at (names f) c.args.nets.now) c.args.place))
    (λ need tells. subst (λ others. TellsNeed f asked c.args.limit others need) same tells) c.need_besides.ensures
