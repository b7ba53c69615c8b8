use Rattle.eco_report.proofs.LineLaws.{limit_is}
use Rattle.eco_report.proofs.line.limit_of.Goals as goal

pub returns-in-Some : goal.returns-in-Some
returns-in-Some c = limit_is c.args.digits.now _ c.checked_limit.result c.in-Some.ensures.some.0 c.in-Some.ensures.some.1 c.checked_limit.ensures
