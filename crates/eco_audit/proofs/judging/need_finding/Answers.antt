-- The netlists are checked; and the row of needed signals is one more.
use Rattle.std.proofs.Common.{MatchOption, subst, arith}
use Rattle.eco_audit.specs.declared.finding.Finding.TheVariants.{Need}
use Rattle.eco_audit.specs.Reported.{IsSaidOfAll, IsFirstWrong, IsReportedNeeded}
use Rattle.eco_audit.proofs.Fitting.{judged_from}
use Rattle.eco_audit.proofs.Rows.{first_fault, more_rows}
use Rattle.eco_audit.proofs.judging.need_finding.Goals as goal

pub first_unneeded-requires : goal.first_unneeded-requires
first_unneeded-requires g c =
    judged_from c.args.solution.now c.implementation.result.now c.implementation.ensures.value c.nets.ensures.checked c.nets-2.ensures.checked c.nets-3.ensures.checked c.requires.closed c.requires.before

pub returns-in-Some : goal.returns-in-Some
returns-in-Some g c =
    let problem = c.args.solution.now.problem.now in
    let p = c.args.solution.now.patch.now in
    let r = c.args.solution.now.report.now in
    first_fault problem p c.args.solution.now.out.now r (Need c.in-Some.name) c.requires.before (omega arith)
    (subst (λ o. MatchOption o (IsSaidOfAll (IsReportedNeeded problem p) r.groups) (IsFirstWrong (IsReportedNeeded problem p) r.groups)) c.in-Some.is c.in_ok-found.ensures)

pub returns-in-None : goal.returns-in-None
returns-in-None g c =
    let problem = c.args.solution.now.problem.now in
    let p = c.args.solution.now.patch.now in
    let r = c.args.solution.now.report.now in
    more_rows problem p c.args.solution.now.out.now r 10 c.requires.before
    (subst (λ o. MatchOption o (IsSaidOfAll (IsReportedNeeded problem p) r.groups) (IsFirstWrong (IsReportedNeeded problem p) r.groups)) c.in-None.is c.in_ok-found.ensures)
