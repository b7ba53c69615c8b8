-- The rest is new.
use Rattle.std.proofs.Common.{refl}
use Rattle.eco_base.specs.declared.state.State.{State}
use Rattle.eco_base.proofs.StateLaws.{list_goes_on}
use Rattle.eco_base.proofs.state.list.Goals as goal

pub returns-clause-goes_on : goal.returns-clause-goes_on
returns-clause-goes_on c = λ stage is at rest.
    let old = c.args.state.now in
    let new : State = record { kept = old.kept; fixed = old.fixed; from = old.from; ones = old.ones; zeros = old.zeros; rests = c.push.new.self } in
    list_goes_on stage old new c.args.rest is at rest refl refl refl refl refl c.in_ok-push.ensures.items
