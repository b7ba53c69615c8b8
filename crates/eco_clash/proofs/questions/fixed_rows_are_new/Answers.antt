use Rattle.eco_clash.proofs.TupleLaws.{fixed_row_is_new}
use Rattle.eco_clash.proofs.questions.fixed_rows_are_new.Goals as goal

pub returns : goal.returns
returns c = fixed_row_is_new
