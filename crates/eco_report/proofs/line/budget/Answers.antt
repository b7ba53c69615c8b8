use Rattle.std.proofs.Common.{codes}
use Rattle.eco_report.proofs.LineLaws.{budget_is}
use Rattle.eco_report.proofs.line.budget.Goals as goal

pub returns-in-Some : goal.returns-in-Some
returns-in-Some c = budget_is c.args.line.now (codes "budget ") _ c.word_and_limit.result c.in-Some.ensures c.word_and_limit.ensures
