use Rattle.eco_laws.proofs.ColumnLemmas.{rows_tell, working_is_in_play}
use Rattle.eco_laws.proofs.columns.rows_tell_signals.Goals as goal

pub returns : goal.returns
returns c = record { rows = rows_tell; working = working_is_in_play }
