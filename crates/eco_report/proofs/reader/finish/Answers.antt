use Rattle.std.proofs.Common.{ap, subst, ◌∙◌}
use Rattle.eco_report.specs.declared.file.ReportFile.TheVariants.{Patched}
use Rattle.eco_report.specs.Lines.{lines_before, IsSound}
use Rattle.eco_report.proofs.Answered.{finish_is, finish_early, target_ends, not_end}
use Rattle.eco_report.proofs.reader.finish.Goals as goal

pub returns-in-Target-clause-ok : goal.returns-in-Target-clause-ok
returns-in-Target-clause-ok c = λ bytes r.
    finish_is bytes c.args.number c.args.state (Patched c.in-Target.report) (λ sound.
    let ends = target_ends c.in-Target.report (subst IsSound c.in-Target.is sound) in
    (ends.0, ap lines_before c.in-Target.is ∙ ends.1))
    r

pub returns-in-Ending-clause-ok : goal.returns-in-Ending-clause-ok
returns-in-Ending-clause-ok c = λ bytes r.
    finish_is bytes c.args.number c.args.state (Patched c.in-Ending.report) (λ sound. (subst IsSound c.in-Ending.is sound, ap lines_before c.in-Ending.is)) r

pub returns-in-Over-clause-ok : goal.returns-in-Over-clause-ok
returns-in-Over-clause-ok c = λ bytes r.
    finish_is bytes c.args.number c.args.state c.in-Over.file (λ sound. (subst IsSound c.in-Over.is sound, ap lines_before c.in-Over.is)) r

pub returns : goal.returns
returns c = record {
  ok = tt;
  refused = λ bytes r. finish_early bytes c.args.number c.args.state (not_end c.args.state c.in_default.not-Target c.in_default.not-Ending c.in_default.not-Over) r;
}
