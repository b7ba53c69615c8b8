use Rattle.eco_report.proofs.Answered.{ok_there, line_there}
use Rattle.eco_report.proofs.reader.read_report.Goals as goal

pub returns-clause-ok_there : goal.returns-clause-ok_there
returns-clause-ok_there c = ok_there c.args.bytes.now c.read_lines.result c.read_lines.ensures.ok c.read_lines.ensures.refused

pub returns-clause-line_there : goal.returns-clause-line_there
returns-clause-line_there c = line_there c.args.bytes.now c.read_lines.result c.read_lines.ensures.ok c.read_lines.ensures.refused
