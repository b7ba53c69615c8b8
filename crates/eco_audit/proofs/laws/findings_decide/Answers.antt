use Rattle.eco_audit.proofs.Deciding.{findings_exclude, rows_solve}
use Rattle.eco_audit.proofs.laws.findings_decide.Goals as goal

pub returns : goal.returns
returns c = record { exclude = findings_exclude; solve = rows_solve }
