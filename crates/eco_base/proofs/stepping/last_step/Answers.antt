-- The engine stays at the stage.
use Rattle.std.proofs.Common.{sym, subst}
use Rattle.eco_base.specs.Scenes.{IsEngineAt}
use Rattle.eco_base.proofs.SceneLaws.{spliced_is}
use Rattle.eco_base.proofs.stepping.last_step.Goals as goal

pub end-requires-clause-spliced : goal.end-requires-clause-spliced
end-requires-clause-spliced g c =
    spliced_is c.args.stage.now c.ask_from.new.engine c.spliced.result.now (subst (IsEngineAt c.args.stage.now) (sym c.in_ok-outcome.ensures.stays) c.requires.engine) c.spliced.ensures
