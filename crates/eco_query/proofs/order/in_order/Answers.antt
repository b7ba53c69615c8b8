use Rattle.std.proofs.Common.{◌≡◌, Bool, List, ℕ, length, map, sym, ◌∙◌, ap, subst}
use Rattle.std.proofs.lemmas.Result.{IfOk-weaker}
use Rattle.eco_meaning.specs.Circuit.{Circuit, names}
use Rattle.eco_gates.specs.Reach.{AreMarked}
use Rattle.eco_query.specs.declared.order.Turn.{Turn}
use Rattle.eco_query.proofs.TurnOrder.{are_nets, are_turns}
use Rattle.eco_query.proofs.order.in_order.Goals as goal

pub returns-clause-nets : goal.returns-clause-nets
returns-clause-nets c =
    let p = c.args.problem.now in
    IfOk-weaker c.nets_of.result _ _
    (λ nets is. are_nets p.implementation p.weights p.input_weight c.args.i c.as_slice.result.now c.in_ok-turns.turns.items c.sort_turns.new.turns.items nets.items
    c.in_ok-turns.ensures.turns c.sort_turns.ensures.permutation
    (is ∙ ap (map (λ (turn : Turn). turn.net)) c.as_slice-2.ensures.value))
    c.nets_of.ensures

pub returns-clause-turns : goal.returns-clause-turns
returns-clause-turns c =
    let p = c.args.problem.now in
    let count : c.nets.result ≡ length (names p.implementation) =
    c.nets.ensures.count ∙ ap (λ (f : Circuit). length (names f)) c.implementation.ensures.value in
    let marked = subst (λ (n : ℕ). AreMarked n c.args.paid.now (length c.args.paid.now) c.in_ok-marks.marks.items) count c.in_ok-marks.ensures in
    let marked_slice = subst (λ (marks : List Bool). AreMarked (length (names p.implementation)) c.args.paid.now (length c.args.paid.now) marks) (sym c.as_slice.ensures.value) marked in
    IfOk-weaker c.nets_of.result _ _
    (λ nets is. are_turns p.implementation p.weights p.input_weight c.args.i c.args.paid.now c.as_slice.result.now c.in_ok-turns.turns.items c.sort_turns.new.turns.items nets.items
    c.turns_of.ensures.checked c.requires marked_slice c.in_ok-turns.ensures.turns c.sort_turns.ensures.permutation c.sort_turns.ensures.sorted
    (is ∙ ap (map (λ (turn : Turn). turn.net)) c.as_slice-2.ensures.value))
    c.nets_of.ensures
