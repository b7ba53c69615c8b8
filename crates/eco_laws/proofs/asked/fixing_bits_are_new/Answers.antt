use Rattle.eco_laws.proofs.AskedLemmas.{missed_row_is_new, fixed_bits_fit, fixed_rest_is_new, fixed_rest_fits}
use Rattle.eco_laws.proofs.asked.fixing_bits_are_new.Goals as goal

pub returns : goal.returns
returns c = record { row = missed_row_is_new; row_fits = fixed_bits_fit; rest = fixed_rest_is_new; rest_fits = fixed_rest_fits }
