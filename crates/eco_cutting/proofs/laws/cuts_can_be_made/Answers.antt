use Rattle.eco_cutting.proofs.CheckedLemmas.{cut_is_checked}
use Rattle.eco_cutting.proofs.MadeLemmas.{cut_is_made}
use Rattle.eco_cutting.proofs.laws.cuts_can_be_made.Goals as goal

pub returns : goal.returns
returns c = record { checked = cut_is_checked; made = cut_is_made }
