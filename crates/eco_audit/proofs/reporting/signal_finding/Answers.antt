-- The rows of candidates and of weights.
use Rattle.std.proofs.Common.{MatchOption, subst, arith}
use Rattle.eco_audit.specs.declared.finding.Finding.TheVariants.{Candidate, Weight}
use Rattle.eco_audit.specs.Reported.{IsSaidOfAll, IsFirstWrong, IsReportedCandidate, IsReportedWeight}
use Rattle.eco_audit.proofs.Rows.{first_fault, more_rows}
use Rattle.eco_audit.proofs.reporting.signal_finding.Goals as goal

pub first_wrong-requires : goal.first_wrong-requires
first_wrong-requires c = c.requires 1 (omega arith)

pub returns-in-Some : goal.returns-in-Some
returns-in-Some c =
    let problem = c.args.solution.now.problem.now in
    let out = c.args.solution.now.out.now in
    let before = c.requires in
    let r = c.args.solution.now.report.now in
    first_fault problem c.args.solution.now.patch.now out r (Candidate c.in-Some.name) before (omega arith)
    (subst (λ o. MatchOption o (IsSaidOfAll (IsReportedCandidate problem) r.groups) (IsFirstWrong (IsReportedCandidate problem) r.groups)) c.in-Some.is c.in_ok-other.ensures)

pub returns-in-Some-heavy : goal.returns-in-Some-heavy
returns-in-Some-heavy c =
    let problem = c.args.solution.now.problem.now in
    let out = c.args.solution.now.out.now in
    let before = c.requires in
    let p = c.args.solution.now.patch.now in
    let r = c.args.solution.now.report.now in
    let candidates = subst (λ o. MatchOption o (IsSaidOfAll (IsReportedCandidate problem) r.groups) (IsFirstWrong (IsReportedCandidate problem) r.groups)) c.in_default.is c.in_ok-other.ensures in
    first_fault problem p out r (Weight c.in-Some-heavy.name) (more_rows problem p out r 3 before candidates) (omega arith)
    (subst (λ o. MatchOption o (IsSaidOfAll (IsReportedWeight problem) r.groups) (IsFirstWrong (IsReportedWeight problem) r.groups)) c.in-Some-heavy.is c.in_ok-heavy.ensures)

pub returns-in-None : goal.returns-in-None
returns-in-None c =
    let problem = c.args.solution.now.problem.now in
    let out = c.args.solution.now.out.now in
    let before = c.requires in
    let p = c.args.solution.now.patch.now in
    let r = c.args.solution.now.report.now in
    let candidates = subst (λ o. MatchOption o (IsSaidOfAll (IsReportedCandidate problem) r.groups) (IsFirstWrong (IsReportedCandidate problem) r.groups)) c.in_default.is c.in_ok-other.ensures in
    let weights = subst (λ o. MatchOption o (IsSaidOfAll (IsReportedWeight problem) r.groups) (IsFirstWrong (IsReportedWeight problem) r.groups)) c.in-None.is c.in_ok-heavy.ensures in
    more_rows problem p out r 4 (more_rows problem p out r 3 before candidates) weights
