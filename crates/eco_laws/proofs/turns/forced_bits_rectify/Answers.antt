use Rattle.eco_laws.proofs.Keeping.{kept_is_rectifiable, forced_bits_keep, kept_is_equivalent}
use Rattle.eco_laws.proofs.turns.forced_bits_rectify.Goals as goal

pub returns : goal.returns
returns c = record { first = kept_is_rectifiable; next = forced_bits_keep; last = kept_is_equivalent }
