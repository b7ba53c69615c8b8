-- Netlists that don't fit together are no problem.
use Rattle.std.proofs.Common.{Option}
use Rattle.eco_meaning.specs.Circuit.{Circuit}
use Rattle.eco_query.specs.declared.problem.PairError.{PairError}
use Rattle.eco_query.specs.declared.problem.PairError.TheVariants.{PortsDiffer, CareInputs, CareOutputs, NoTarget, TooManyTargets, OutOfMemory}
use Rattle.eco_query.specs.Pairing.{IsMisfit, Refuses}

pub misfit_refused : (f g : Circuit) (care : Option Circuit) (error : PairError) → IsMisfit f g care error → Refuses f g care error
misfit_refused f g care (PortsDiffer name) misfit = misfit
misfit_refused f g care (CareInputs name) misfit = misfit
misfit_refused f g care (CareOutputs count) misfit = misfit
misfit_refused f g care NoTarget misfit = absurd misfit
misfit_refused f g care (TooManyTargets count) misfit = absurd misfit
misfit_refused f g care OutOfMemory misfit = misfit
