use Rattle.eco_prooftext.proofs.OnceLaws.{refutation_checks}
use Rattle.eco_prooftext.proofs.law.checks.Goals as goal

pub returns : goal.returns
returns c = refutation_checks
