use Rattle.eco_clash.proofs.TupleLaws.{unfixed_clashes, clashes_are_unfixed}
use Rattle.eco_clash.proofs.questions.unfixed_tuples_clash.Goals as goal

pub returns : goal.returns
returns c = record { clash = unfixed_clashes; unfixed = clashes_are_unfixed }
