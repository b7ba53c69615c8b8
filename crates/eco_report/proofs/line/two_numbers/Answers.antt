use Rattle.eco_report.proofs.LineLaws.{numbers_cut, no_numbers}
use Rattle.eco_report.proofs.line.two_numbers.Goals as goal

pub returns-in-Some : goal.returns-in-Some
returns-in-Some c = numbers_cut c.args.fields.now _ _ c.numbers_of.result c.in-Some.ensures c.numbers_of.ensures

pub returns-in-None : goal.returns-in-None
returns-in-None c = no_numbers c.args.fields.now c.in-None.ensures
