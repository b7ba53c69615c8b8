use Rattle.eco_report.proofs.LineLaws.{numbered_is}
use Rattle.eco_report.proofs.line.numbered.Goals as goal

pub returns-in-Some : goal.returns-in-Some
returns-in-Some c = numbered_is c.args.line.now c.args.word.now _ c.number_of.result c.in-Some.ensures c.number_of.ensures.some c.number_of.ensures.none
