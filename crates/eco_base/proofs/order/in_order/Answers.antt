-- The nets are put in the other order.
use Rattle.std.proofs.Common.{ℕ, ◌<◌, Bool, false, not, List, ◌++◌, get_or, length, sym, ◌∙◌, ap, subst}
use Rattle.std.specs.List.{filter}
use Rattle.std.proofs.lemmas.List.Elements.{All-append, All-filter}
use Rattle.eco_meaning.specs.Circuit.{names}
use Rattle.eco_gates.specs.Reach.{AreMarked}
use Rattle.eco_gates.specs.declared.gate.NetId.{NetId}
use Rattle.eco_netlist.specs.Netlists.{AreNets, names_at}
use Rattle.eco_base.proofs.TurnLaws.{named_in_order}
use Rattle.eco_base.proofs.order.in_order.Goals as goal

pub returns-clause-nets : goal.returns-clause-nets
returns-clause-nets c =
    let turns = c.args.turns.now in
    let within = λ (net : NetId). net.0 < length (names c.args.n.now) in
    let early = λ (net : NetId). not (get_or c.as_slice.result.now net.0 false) in
    let late = λ (net : NetId). get_or c.as_slice-2.result.now net.0 false in
    let is = c.in_ok-extend_from_slice.ensures.items ∙ ap (λ list. list ++ c.as_slice-3.result.now) c.in_ok-nets.ensures ∙ ap (λ list. filter early turns ++ list) (c.as_slice-3.ensures.value ∙ c.in_ok-behind.ensures) in
    subst (AreNets (names c.args.n.now)) (sym is)
    (All-append within (filter early turns) (filter late turns) (All-filter early within turns c.requires.turns) (All-filter late within turns c.requires.turns))

pub returns-clause-order : goal.returns-clause-order
returns-clause-order c =
    let turns = c.args.turns.now in
    let list = names c.args.n.now in
    let marks = c.in_ok-marks.marks.items in
    let early = λ (net : NetId). not (get_or c.as_slice.result.now net.0 false) in
    let is = c.in_ok-extend_from_slice.ensures.items ∙ ap (λ nets. nets ++ c.as_slice-3.result.now) c.in_ok-nets.ensures ∙ ap (λ nets. filter early turns ++ nets) (c.as_slice-3.ensures.value ∙ c.in_ok-behind.ensures) in
    let are = subst (λ (count : ℕ). AreMarked count c.args.last.now (length c.args.last.now) marks) c.nets.ensures.count c.in_ok-marks.ensures in
    ap (names_at list) (is
    ∙ ap (λ (bits : List Bool). filter (λ (net : NetId). not (get_or bits net.0 false)) turns ++ filter (λ (net : NetId). get_or c.as_slice-2.result.now net.0 false) turns) c.as_slice.ensures.value
    ∙ ap (λ (bits : List Bool). filter (λ (net : NetId). not (get_or marks net.0 false)) turns ++ filter (λ (net : NetId). get_or bits net.0 false) turns) c.as_slice-2.ensures.value)
    ∙ named_in_order list turns c.args.last.now marks c.nets.ensures.checked.distinct c.requires.turns c.requires.last are
