use Rattle.eco_progress.proofs.Going.{interpolants_keep, earlier_stand}
use Rattle.eco_progress.proofs.laws.targets_go_on.Goals as goal

pub returns : goal.returns
returns c = record { kept = interpolants_keep; stand = earlier_stand }
