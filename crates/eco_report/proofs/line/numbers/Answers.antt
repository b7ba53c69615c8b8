use Rattle.eco_report.proofs.LineLaws.{numbers_are}
use Rattle.eco_report.proofs.line.numbers.Goals as goal

pub returns-in-Some : goal.returns-in-Some
returns-in-Some c = numbers_are c.args.line.now c.args.word.now _ c.two_numbers.result c.in-Some.ensures c.two_numbers.ensures
