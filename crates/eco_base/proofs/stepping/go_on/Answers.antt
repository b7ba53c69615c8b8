-- What was asked about suffices, or doesn't, or the rest is new.
use Rattle.std.proofs.Common.{ap, arith, subst}
use Rattle.eco_laws.proofs.AskedLemmas.{none_separated}
use Rattle.eco_base.specs.Asking.{IsOutcome, names_here}
use Rattle.eco_base.specs.Fronts.{base_from}
use Rattle.eco_base.specs.SideValue.{SideValue}
use Rattle.eco_base.proofs.WalkLaws.{forcing_as}
use Rattle.eco_base.proofs.stepping.go_on.Goals as goal

pub keep-requires-clause-enough : goal.keep-requires-clause-enough
keep-requires-clause-enough c = λ before target behind are len.
    let stage = c.args.stage.now in
    let base = base_from stage c.args.state.now c.args.kept.column in
    let refuted = subst (IsOutcome stage c.args.state.now.rests.items base) c.in-Never.is c.requires.outcome in
    none_separated stage.problem.now.implementation stage.problem.now.goal stage.patches before target behind c.args.state.now.rests.items (names_here stage base)
    (refuted.none before target behind are len)

pub join-requires-clause-forced : goal.join-requires-clause-forced
join-requires-clause-forced c = λ before target behind are len.
    let stage = c.args.stage.now in
    let conflict = subst (IsOutcome stage c.args.state.now.rests.items (base_from stage c.args.state.now c.args.kept.column)) c.in-Conflict.is c.requires.outcome in
    ((conflict before target behind are len).one, (conflict before target behind are len).zero)

pub returns-in_ok-join-in-Conflict-clause-stepped : goal.returns-in_ok-join-in-Conflict-clause-stepped
returns-in_ok-join-in-Conflict-clause-stepped c =
    let stage = c.args.stage.now in
    let next = c.requires.next in
    let within = next.within in
    c.in_ok-join-in-Conflict.ensures.goes_on c.args.kept.column (record { behind = next.behind; within = omega (arith, within); tell = next.tell })
    (subst (IsOutcome stage c.args.state.now.rests.items (base_from stage c.args.state.now c.args.kept.column)) c.in-Conflict.is c.requires.outcome)

pub returns-in_ok-list-in-Further-clause-stepped : goal.returns-in_ok-list-in-Further-clause-stepped
returns-in_ok-list-in-Further-clause-stepped c =
    let stage = c.args.stage.now in
    c.in_ok-list-in-Further.ensures.goes_on stage c.requires.stage c.requires.state
    (subst (IsOutcome stage c.args.state.now.rests.items (base_from stage c.args.state.now c.args.kept.column)) c.in-Further.is c.requires.outcome)

pub returns-in_ok-list-in-Further-clause-forcing : goal.returns-in_ok-list-in-Further-clause-forcing
returns-in_ok-list-in-Further-clause-forcing c =
    let old = c.args.state.now in
    let new = c.list.new.state in
    forcing_as c.args.stage.now new.ones.inputs old.ones.inputs new.zeros.inputs old.zeros.inputs
    (ap (λ (side : SideValue). side.inputs) c.list.ensures.ones) (ap (λ (side : SideValue). side.inputs) c.list.ensures.zeros) c.requires.forcing

pub returns-in_err-list-in-Further-clause-forcing : goal.returns-in_err-list-in-Further-clause-forcing
returns-in_err-list-in-Further-clause-forcing c =
    let old = c.args.state.now in
    let new = c.list.new.state in
    forcing_as c.args.stage.now new.ones.inputs old.ones.inputs new.zeros.inputs old.zeros.inputs
    (ap (λ (side : SideValue). side.inputs) c.list.ensures.ones) (ap (λ (side : SideValue). side.inputs) c.list.ensures.zeros) c.requires.forcing
