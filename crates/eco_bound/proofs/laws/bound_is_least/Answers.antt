use Rattle.eco_bound.proofs.Least.{bound_is_least, any_patch_will_do}
use Rattle.eco_bound.proofs.laws.bound_is_least.Goals as goal

pub returns : goal.returns
returns c = record { least = bound_is_least; any_patch = any_patch_will_do }
