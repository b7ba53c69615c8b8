use Rattle.eco_clash.proofs.PatchLaws.{patches_tell_clashes}
use Rattle.eco_clash.proofs.costs.patches_tell_clashes.Goals as goal

pub returns : goal.returns
returns c = patches_tell_clashes
