use Rattle.eco_report.proofs.LineLaws.{target_is}
use Rattle.eco_report.proofs.step.at_target.Goals as goal

pub returns-in-None : goal.returns-in-None
returns-in-None c =
    let none = rw c.in-None.is at c.in_ok-target.ensures in
    target_is c.args.report c.args.line.now c.behind_targets.result none c.behind_targets.ensures
