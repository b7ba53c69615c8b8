-- Values of the paid signals and of the turns can be had, and are seen together.
use Rattle.std.proofs.Common.{List, length, sym, ◌∙◌, ap, subst}
use Rattle.eco_gates.specs.declared.gate.NetId.{NetId}
use Rattle.eco_base.specs.Targets.{AreReadableAt, named_in, paid_of}
use Rattle.eco_base.specs.Walks.{AreRowsAt}
use Rattle.eco_least.specs.Rows.{turn_names}
use Rattle.eco_least.proofs.WeighedLaws.{turns_readable}
use Rattle.eco_least.proofs.AccountLaws.{rows_long, sights_are}
use Rattle.eco_least.proofs.sights.see.Goals as goal

pub rows-requires-clause-readable : goal.rows-requires-clause-readable
rows-requires-clause-readable g c = subst (AreReadableAt c.args.target.now) (sym c.paid.ensures.paid) c.paid.ensures.readable

pub rows-requires-2-clause-readable : goal.rows-requires-2-clause-readable
rows-requires-2-clause-readable g c =
    let t = c.args.target.now in
    subst (AreReadableAt t) (sym c.as_slice.ensures.value) (turns_readable t c.args.weighed.now c.requires.weighed)

pub join-requires : goal.join-requires
join-requires g c =
    let t = c.args.target.now in
    let weighed = c.args.weighed.now in
    let inputs = c.args.inputs.now in
    let paid = c.in_ok-paid.paid.items in
    let turns = c.in_ok-turns.turns.items in
    ap length c.as_slice-2.ensures.value
    ∙ rows_long t weighed c.requires.weighed (paid_of t) inputs paid (subst (λ (nets : List NetId). AreRowsAt t.problem t.number t.patches (named_in t nets) inputs paid) c.paid.ensures.paid c.in_ok-paid.ensures)
    ∙ sym (rows_long t weighed c.requires.weighed (turn_names t weighed) inputs turns (subst (λ (nets : List NetId). AreRowsAt t.problem t.number t.patches (named_in t nets) inputs turns) c.as_slice.ensures.value c.in_ok-turns.ensures))
    ∙ sym (ap length c.as_slice-3.ensures.value)

pub returns : goal.returns
returns g c =
    let t = c.args.target.now in
    let weighed = c.args.weighed.now in
    let inputs = c.args.inputs.now in
    let paid = c.in_ok-paid.paid.items in
    let turns = c.in_ok-turns.turns.items in
    sights_are t weighed inputs paid turns c.in_ok-sights.sights.items
    (subst (λ (nets : List NetId). AreRowsAt t.problem t.number t.patches (named_in t nets) inputs paid) c.paid.ensures.paid c.in_ok-paid.ensures)
    (subst (λ (nets : List NetId). AreRowsAt t.problem t.number t.patches (named_in t nets) inputs turns) c.as_slice.ensures.value c.in_ok-turns.ensures)
    (c.in_ok-sights.ensures.paid ∙ c.as_slice-2.ensures.value)
    (c.in_ok-sights.ensures.turns ∙ c.as_slice-3.ensures.value)
