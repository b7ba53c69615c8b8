use Rattle.eco_prooftext.proofs.WrittenLaws.{read_back}
use Rattle.eco_prooftext.proofs.law.reads_back.Goals as goal

pub returns : goal.returns
returns c = read_back
