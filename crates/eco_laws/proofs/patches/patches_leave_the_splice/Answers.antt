use Rattle.eco_laws.proofs.Spliced.{reached_maps_are_the_splices}
use Rattle.eco_laws.proofs.patches.patches_leave_the_splice.Goals as goal

pub returns : goal.returns
returns c = reached_maps_are_the_splices
