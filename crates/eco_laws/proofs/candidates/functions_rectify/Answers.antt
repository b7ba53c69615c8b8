use Rattle.eco_laws.proofs.Values.{functions_show_that_signals_suffice, functions_keep}
use Rattle.eco_laws.proofs.candidates.functions_rectify.Goals as goal

pub returns : goal.returns
returns c = record { suffices = functions_show_that_signals_suffice; kept = functions_keep }
