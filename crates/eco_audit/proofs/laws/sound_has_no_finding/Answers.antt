use Rattle.eco_audit.proofs.OneFinding.{no_finding}
use Rattle.eco_audit.proofs.laws.sound_has_no_finding.Goals as goal

pub returns : goal.returns
returns c = no_finding
