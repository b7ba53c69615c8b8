use Rattle.eco_progress.proofs.Needed.{needed_are_read}
use Rattle.eco_progress.proofs.laws.needed_signals_are_read.Goals as goal

pub returns : goal.returns
returns c = needed_are_read
