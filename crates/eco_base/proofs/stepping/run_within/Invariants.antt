-- The state is one of the stage, and the engine stays what it is.
use Rattle.std.proofs.Common.{◌≡◌}
use Rattle.eco_base.specs.Scenes.{AtScene, AreForcing}
use Rattle.eco_base.specs.Fronts.{IsState}
use Rattle.eco_base.proofs.stepping.run_within.Given as goal

abbrev pub invariant-loop-step : goal.invariant-loop-step
invariant-loop-step g l = record {
  state : IsState l.stage l.state;
  forcing : AtScene l.stage (λ s. AreForcing s l.state.ones.inputs l.state.zeros.inputs);
  stays : l.engine ≡ l.initial.engine;
}
