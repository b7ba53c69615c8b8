use Rattle.eco_cli.proofs.Exactly.{complete, exact}
use Rattle.eco_cli.proofs.Headlines.{headline}
use Rattle.eco_cli.proofs.OfGates.{of_gates}
use Rattle.eco_cli.proofs.top.run_heard.Goals as goal

pub returns : goal.returns
returns g c = record {
  run = record {
    answered = c.answered.ensures.answered;
    kept = c.answered.ensures.kept;
    exactly = exact _ c.answered.ensures.one _ _ c.answered.ensures.answered;
    complete = complete _ c.answered.ensures.one _ _ c.answered.ensures.answered;
    headline = headline _ c.answered.ensures.one _ _ c.answered.ensures.answered;
    of_gates = of_gates _ _ (headline _ c.answered.ensures.one _ _ c.answered.ensures.answered);
  };
}
