use Rattle.eco_lists.specs.Lines.{cut_at_feeds, lines_of}
use Rattle.eco_prooftext.proofs.FileLaws.{steps_no_fault, steps_once}
use Rattle.eco_prooftext.proofs.OnceLaws.{lines_once}
use Rattle.eco_prooftext.proofs.law.says_once.Goals as goal

pub returns : goal.returns
returns c = record {
  clauses = λ bytes. lines_once (cut_at_feeds bytes);
  steps = λ bytes. steps_once (lines_of bytes);
  sound = λ bytes steps line. steps_no_fault (lines_of bytes) steps line;
}
