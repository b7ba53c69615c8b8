-- The law is proved in its own file.
use Rattle.eco_compile.proofs.Telling.{miters_tell}
use Rattle.eco_compile.proofs.wrong.miters_tell.Goals as goal

pub returns : goal.returns
returns c = miters_tell
