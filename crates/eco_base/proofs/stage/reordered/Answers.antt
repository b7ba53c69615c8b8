-- The turns are in another order.
use Rattle.std.proofs.Common.{◌++◌, List, drop, take, sym, ◌∙◌, ap, subst}
use Rattle.eco_meaning.specs.Circuit.{Circuit, names}
use Rattle.eco_gates.specs.declared.gate.NetId.{NetId}
use Rattle.eco_netlist.specs.Netlists.{AreNets, names_at}
use Rattle.eco_base.specs.Walks.{put_last}
use Rattle.eco_base.proofs.StageLaws.{stage_reordered}
use Rattle.eco_base.proofs.stage.reordered.Goals as goal

pub returns : goal.returns
returns c =
    let stage = c.args.stage.now in
    let last = c.args.last.now in
    let f = stage.problem.now.implementation in
    let ordered = c.in_ok-ordered.ordered.items in
    let paid = take stage.paid stage.columns.items in
    let value = c.implementation-implementation.ensures.value in
    let front = c.split_at.ensures.front ∙ ap (take stage.paid) c.as_slice.ensures.value in
    let back = c.split_at.ensures.back ∙ ap (drop stage.paid) c.as_slice.ensures.value in
    let nets = subst (λ (f : Circuit). AreNets (names f) ordered) value c.in_ok-ordered.ensures.nets in
    let put = ap (λ (f : Circuit). names_at (names f) ordered) (sym value)
    ∙ c.in_ok-ordered.ensures.order
    ∙ ap (λ (f : Circuit). put_last (names_at (names f) last) (names_at (names f) c.split_at.result.1.now)) value
    ∙ ap (λ (nets : List NetId). put_last (names_at (names f) last) (names_at (names f) nets)) back in
    let same = c.in_ok-extend_from_slice.ensures.items ∙ ap (λ list. list ++ c.as_slice-2.result.now) (c.in_ok-columns.ensures.items ∙ front) ∙ ap (λ list. paid ++ list) c.as_slice-2.ensures.value in
    stage_reordered stage c.extend_from_slice.new.self last ordered c.requires.stage c.requires.order nets put same
