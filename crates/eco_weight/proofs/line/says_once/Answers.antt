use Rattle.eco_weight.proofs.WordLemmas.{says_one, blank_says_none}
use Rattle.eco_weight.proofs.line.says_once.Goals as goal

pub returns : goal.returns
returns c = record { one = says_one; none = blank_says_none }
