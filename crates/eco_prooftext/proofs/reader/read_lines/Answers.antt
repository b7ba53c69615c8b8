use Rattle.std.proofs.Common.{map}
use Rattle.eco_prooftext.proofs.LineReadLaws.{all_refused}
use Rattle.eco_prooftext.proofs.reader.read_lines.Goals as goal

pub returns-in-None-clause-fault : goal.returns-in-None-clause-fault
returns-in-None-clause-fault c =
    all_refused c.in_ok-body.body (map (λ line. line.now) c.args.lines.now) c.in_ok-body.ensures.ok c.in-None.ensures.none
