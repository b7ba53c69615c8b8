use Rattle.eco_locate.proofs.LocatedLemmas.{judged_is_located}
use Rattle.eco_locate.proofs.laws.judged_nets_are_located.Goals as goal

pub returns : goal.returns
returns c = judged_is_located
