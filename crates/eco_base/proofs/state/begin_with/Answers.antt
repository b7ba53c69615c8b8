-- The inputs are known in the state.
use Rattle.std.proofs.Common.{◌≡◌, List, Bool, length, refl, sym, ap, subst}
use Rattle.std.specs.List.{All, AllZip}
use Rattle.eco_base.specs.SideValue.{SideValue}
use Rattle.eco_base.specs.declared.state.State.{State}
use Rattle.eco_base.specs.Fronts.{IsColumnRow}
use Rattle.eco_base.proofs.WalkLaws.{forcing_as, forcing_long, known_state}
use Rattle.eco_base.proofs.state.begin_with.Goals as goal

pub rows_of-requires-clause-inputs : goal.rows_of-requires-clause-inputs
rows_of-requires-clause-inputs c =
    let stage = c.args.stage.now in
    let known = c.args.known.now in
    subst (All (λ (x : List Bool). length x ≡ length stage.problem.now.implementation.inputs)) (sym c.as_slice.ensures.value)
    (forcing_long stage known.ones.items known.zeros.items c.requires.stage c.requires.known).0

pub rows_of-requires-2-clause-inputs : goal.rows_of-requires-2-clause-inputs
rows_of-requires-2-clause-inputs c =
    let stage = c.args.stage.now in
    let known = c.args.known.now in
    subst (All (λ (x : List Bool). length x ≡ length stage.problem.now.implementation.inputs)) (sym c.as_slice-2.ensures.value)
    (forcing_long stage known.ones.items known.zeros.items c.requires.stage c.requires.known).1

pub returns-clause-forcing : goal.returns-clause-forcing
returns-clause-forcing c =
    let known = c.args.known.now in
    forcing_as c.args.stage.now c.exchange.new.self.inputs known.ones.items c.exchange-2.new.self.inputs known.zeros.items
    (ap (λ (side : SideValue). side.inputs) c.exchange.ensures.side) (ap (λ (side : SideValue). side.inputs) c.exchange-2.ensures.side) c.requires.known

pub returns-clause-known : goal.returns-clause-known
returns-clause-known c =
    let state = c.in_ok-state.state in
    forcing_as c.args.stage.now c.exchange.new.inputs.items state.ones.inputs c.exchange-2.new.inputs.items state.zeros.inputs
    c.exchange.ensures.inputs c.exchange-2.ensures.inputs c.in_ok-state.ensures.forcing

pub returns-clause-state : goal.returns-clause-state
returns-clause-state c =
    let stage = c.args.stage.now in
    let old = c.in_ok-state.state in
    let new : State = record { kept = old.kept; fixed = old.fixed; from = old.from; ones = c.exchange.new.self; zeros = c.exchange-2.new.self; rests = old.rests } in
    let Is = IsColumnRow stage in
    known_state stage old new c.requires.stage c.in_ok-state.ensures.state refl refl refl refl
    (subst (λ (side : SideValue). AllZip Is side.inputs side.rows) (sym c.exchange.ensures.side)
    (subst (λ (inputs : List (List Bool)). AllZip Is inputs c.in_ok-ones.ones.items) c.as_slice.ensures.value c.in_ok-ones.ensures))
    (subst (λ (side : SideValue). AllZip Is side.inputs side.rows) (sym c.exchange-2.ensures.side)
    (subst (λ (inputs : List (List Bool)). AllZip Is inputs c.in_ok-zeros.zeros.items) c.as_slice-2.ensures.value c.in_ok-zeros.ensures))
    (returns-clause-forcing c)
