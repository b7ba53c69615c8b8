use Rattle.eco_laws.proofs.Keeping.{forced_bits_are_all}
use Rattle.eco_laws.proofs.turns.forced_bits_are_all.Goals as goal

pub returns : goal.returns
returns c = forced_bits_are_all
