use Rattle.eco_report.proofs.LineLaws.{amount_is}
use Rattle.eco_report.proofs.line.amount.Goals as goal

pub returns-in-Some : goal.returns-in-Some
returns-in-Some c = amount_is c.args.line.now _ c.limit_of.result c.in-Some.ensures c.limit_of.ensures
