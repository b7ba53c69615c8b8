-- Row by row.
use Rattle.std.proofs.Common.{subst}
use Rattle.eco_audit.specs.Judging.{IsFoundUpTo}
use Rattle.eco_audit.proofs.making.made_finding.Goals as goal

pub splice_finding-requires-clause-before : goal.splice_finding-requires-clause-before
splice_finding-requires-clause-before c =
    subst (IsFoundUpTo 9 c.args.solution.now) c.in-None.is c.in_ok-found.ensures

pub returns-in-Some : goal.returns-in-Some
returns-in-Some c =
    subst (IsFoundUpTo 9 c.args.solution.now) c.in-Some.is c.in_ok-found.ensures
