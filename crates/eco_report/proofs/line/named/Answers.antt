use Rattle.eco_report.proofs.LineLaws.{named_is}
use Rattle.eco_report.proofs.line.named.Goals as goal

pub returns-in-Some : goal.returns-in-Some
returns-in-Some c = named_is c.args.line.now c.args.word.now _ c.name_and_number.result c.in-Some.ensures c.name_and_number.ensures
