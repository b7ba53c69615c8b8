-- The state is one of the stage, the engine stays what it is, and less is left after each step.
use Rattle.std.proofs.Common.{◌≡◌}
use Rattle.eco_base.specs.Scenes.{AtScene, AreForcing}
use Rattle.eco_base.specs.Fronts.{IsState, left_of}
use Rattle.eco_base.proofs.stepping.run.Given as goal

abbrev pub invariant-steps : goal.invariant-steps
invariant-steps g l = record {
  state : IsState l.stage l.state;
  forcing : AtScene l.stage (λ s. AreForcing s l.state.ones.inputs l.state.zeros.inputs);
  stays : l.engine ≡ l.initial.engine;
}

abbrev pub decreases-steps : goal.decreases-steps
decreases-steps g l = left_of l.stage l.state
