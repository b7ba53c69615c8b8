-- The law is proved in its own file.
use Rattle.eco_compile.proofs.Telling.{targets_determine}
use Rattle.eco_compile.proofs.wrong.targets_determine.Goals as goal

pub returns : goal.returns
returns c = targets_determine
