use Rattle.eco_prooftext.proofs.CnfWrittenLaws.{clauses_back}
use Rattle.eco_prooftext.proofs.law.clauses_read_back.Goals as goal

pub returns : goal.returns
returns c = clauses_back
