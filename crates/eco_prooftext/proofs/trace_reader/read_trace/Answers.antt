use Rattle.eco_prooftext.proofs.FileLaws.{ok_there, line_there}
use Rattle.eco_prooftext.proofs.trace_reader.read_trace.Goals as goal

pub returns-clause-ok_there : goal.returns-clause-ok_there
returns-clause-ok_there c =
    ok_there (λ v. v.items) c.args.bytes.now c.read_lines.result c.read_lines.ensures.ok c.read_lines.ensures.refused

pub returns-clause-line_there : goal.returns-clause-line_there
returns-clause-line_there c =
    line_there (λ v. v.items) c.args.bytes.now c.read_lines.result c.read_lines.ensures.ok c.read_lines.ensures.refused
