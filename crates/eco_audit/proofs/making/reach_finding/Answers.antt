-- What the functions read is one more row.
use Rattle.std.proofs.Common.{MatchOption, subst, arith}
use Rattle.eco_audit.specs.declared.finding.Finding.TheVariants.{Reach}
use Rattle.eco_audit.specs.Reported.{IsSaidOfAll, IsFirstWrong, IsReadInTime}
use Rattle.eco_audit.proofs.Rows.{first_fault, more_rows}
use Rattle.eco_audit.proofs.making.reach_finding.Goals as goal

pub first_wrong-requires : goal.first_wrong-requires
first_wrong-requires c = (c.requires 1 (omega arith), c.requires 2 (omega arith), c.requires 3 (omega arith))

pub returns-in-Some : goal.returns-in-Some
returns-in-Some c =
    let problem = c.args.solution.now.problem.now in
    let p = c.args.solution.now.patch.now in
    let r = c.args.solution.now.report.now in
    let says_it = IsReadInTime problem.implementation p in
    first_fault problem p c.args.solution.now.out.now r (Reach c.in-Some.name) c.requires (omega arith)
    (subst (λ o. MatchOption o (IsSaidOfAll says_it r.groups) (IsFirstWrong says_it r.groups)) c.in-Some.is c.in_ok-early.ensures)

pub returns-in-None : goal.returns-in-None
returns-in-None c =
    let problem = c.args.solution.now.problem.now in
    let p = c.args.solution.now.patch.now in
    let out = c.args.solution.now.out.now in
    let r = c.args.solution.now.report.now in
    let says_it = IsReadInTime problem.implementation p in
    more_rows problem p out r 8 c.requires
    (subst (λ o. MatchOption o (IsSaidOfAll says_it r.groups) (IsFirstWrong says_it r.groups)) c.in-None.is c.in_ok-early.ensures)
