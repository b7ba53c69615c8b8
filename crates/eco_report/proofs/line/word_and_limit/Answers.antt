use Rattle.eco_report.proofs.LineLaws.{spent_is, no_budget}
use Rattle.eco_report.proofs.line.word_and_limit.Goals as goal

pub returns-in-Some : goal.returns-in-Some
returns-in-Some c = spent_is c.args.fields.now _ _ c.spent_of.result c.in-Some.ensures c.spent_of.ensures

pub returns-in-None : goal.returns-in-None
returns-in-None c = no_budget c.args.fields.now c.in-None.ensures
