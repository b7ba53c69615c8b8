use Rattle.eco_cutting.proofs.CutLemmas.{cut_is_wrong_but, cut_is_rectifiable}
use Rattle.eco_cutting.proofs.laws.cuts_free_nets.Goals as goal

pub returns : goal.returns
returns c = record { wrong = cut_is_wrong_but; rectifiable = cut_is_rectifiable }
