use Rattle.eco_clash.proofs.TogetherLaws.{together_suffices_for_first}
use Rattle.eco_clash.proofs.together.together_suffices_for_first.Goals as goal

pub returns : goal.returns
returns c = together_suffices_for_first
