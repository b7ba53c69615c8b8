use Rattle.eco_audit.proofs.OneFinding.{one_finding}
use Rattle.eco_audit.proofs.laws.one_finding_is_first.Goals as goal

pub returns : goal.returns
returns c = one_finding
