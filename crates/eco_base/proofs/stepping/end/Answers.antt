-- What is kept doesn't suffice, or the rest is new.
use Rattle.std.proofs.Common.{length, ap, subst}
use Rattle.eco_base.specs.Asking.{IsOutcome}
use Rattle.eco_base.specs.Fronts.{base_from}
use Rattle.eco_base.specs.SideValue.{SideValue}
use Rattle.eco_base.proofs.WalkLaws.{forcing_as}
use Rattle.eco_base.proofs.stepping.end.Goals as goal

pub join-requires-clause-forced : goal.join-requires-clause-forced
join-requires-clause-forced c = λ before target behind are len.
    let stage = c.args.stage.now in
    let conflict = subst (IsOutcome stage c.args.state.now.rests.items (base_from stage c.args.state.now (length stage.columns.items))) c.in-Conflict.is c.requires.outcome in
    ((conflict before target behind are len).one, (conflict before target behind are len).zero)

pub returns-in_ok-join-in-Conflict-clause-stepped : goal.returns-in_ok-join-in-Conflict-clause-stepped
returns-in_ok-join-in-Conflict-clause-stepped c =
    let stage = c.args.stage.now in
    c.in_ok-join-in-Conflict.ensures.goes_on (length stage.columns.items) c.requires.separated
    (subst (IsOutcome stage c.args.state.now.rests.items (base_from stage c.args.state.now (length stage.columns.items))) c.in-Conflict.is c.requires.outcome)

pub returns-in_ok-list-in-Further-clause-stepped : goal.returns-in_ok-list-in-Further-clause-stepped
returns-in_ok-list-in-Further-clause-stepped c =
    let stage = c.args.stage.now in
    c.in_ok-list-in-Further.ensures.goes_on stage c.requires.stage c.requires.state
    (subst (IsOutcome stage c.args.state.now.rests.items (base_from stage c.args.state.now (length stage.columns.items))) c.in-Further.is c.requires.outcome)

pub returns-in_ok-list-in-Further-clause-forcing : goal.returns-in_ok-list-in-Further-clause-forcing
returns-in_ok-list-in-Further-clause-forcing c =
    let old = c.args.state.now in
    let new = c.list.new.state in
    forcing_as c.args.stage.now new.ones.inputs old.ones.inputs new.zeros.inputs old.zeros.inputs
    (ap (λ (side : SideValue). side.inputs) c.list.ensures.ones) (ap (λ (side : SideValue). side.inputs) c.list.ensures.zeros) c.requires.forcing

pub returns-in_err-list-in-Further-clause-forcing : goal.returns-in_err-list-in-Further-clause-forcing
returns-in_err-list-in-Further-clause-forcing c =
    let old = c.args.state.now in
    let new = c.list.new.state in
    forcing_as c.args.stage.now new.ones.inputs old.ones.inputs new.zeros.inputs old.zeros.inputs
    (ap (λ (side : SideValue). side.inputs) c.list.ensures.ones) (ap (λ (side : SideValue). side.inputs) c.list.ensures.zeros) c.requires.forcing
