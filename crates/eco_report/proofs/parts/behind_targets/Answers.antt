use Rattle.eco_report.proofs.LineLaws.{ending_is}
use Rattle.eco_report.proofs.parts.behind_targets.Goals as goal

pub returns-in-None : goal.returns-in-None
returns-in-None c = ending_is c.args.report c.args.line.now c.at_ending.result c.in-None.ensures c.at_ending.ensures
