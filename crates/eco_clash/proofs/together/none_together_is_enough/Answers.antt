use Rattle.eco_clash.proofs.TogetherLaws.{none_together}
use Rattle.eco_clash.proofs.together.none_together_is_enough.Goals as goal

pub returns : goal.returns
returns c = none_together
