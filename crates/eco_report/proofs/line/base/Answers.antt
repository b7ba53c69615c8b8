use Rattle.eco_report.proofs.LineLaws.{base_is}
use Rattle.eco_report.proofs.line.base.Goals as goal

pub returns-in-Some : goal.returns-in-Some
returns-in-Some c =
    let found = rw c.in-Some.is at c.in_ok-name.ensures in
    base_is c.args.line.now c.in-Some.name c.in-Some.number c.with_weight.result found c.with_weight.ensures
