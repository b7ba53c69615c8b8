use Rattle.eco_clash.proofs.FloorLaws.{rows_bound_patches}
use Rattle.eco_clash.proofs.costs.rows_bound_patches.Goals as goal

pub returns : goal.returns
returns c = rows_bound_patches
