-- Nothing is kept or known.
use Rattle.std.proofs.Common.{refl}
use Rattle.eco_base.specs.declared.state.State.{State}
use Rattle.eco_base.specs.Scenes.{scene_of}
use Rattle.eco_base.proofs.EndLaws.{begin_state}
use Rattle.eco_base.proofs.WalkLaws.{none_forcing}
use Rattle.eco_base.proofs.state.begin.Goals as goal

pub returns-clause-state : goal.returns-clause-state
returns-clause-state c =
    let stage = c.args.stage.now in
    let state : State = record { kept = c.new.result; fixed = c.in_ok-fixed.fixed; from = stage.paid; ones = c.new-2.result; zeros = c.new-3.result; rests = c.new-4.result } in
    begin_state stage state c.requires.stage c.in_ok-fixed.ensures refl c.new.ensures.items c.new-2.ensures c.new-3.ensures c.new-4.ensures.items

pub returns-clause-forcing : goal.returns-clause-forcing
returns-clause-forcing c = λ before target behind are len.
    none_forcing (scene_of c.args.stage.now before target behind) c.new-2.result c.new-3.result c.new-2.ensures c.new-3.ensures
