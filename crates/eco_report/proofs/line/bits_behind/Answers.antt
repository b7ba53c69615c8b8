use Rattle.eco_report.proofs.LineLaws.{bits_are}
use Rattle.eco_report.proofs.line.bits_behind.Goals as goal

pub returns-in-Some : goal.returns-in-Some
returns-in-Some c = bits_are c.args.line.now c.args.word.now _ c.bits_of.result c.in-Some.ensures c.bits_of.ensures
