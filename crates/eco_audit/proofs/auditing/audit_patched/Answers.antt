-- The outputs come last.
use Rattle.std.proofs.Common.{subst}
use Rattle.eco_audit.specs.Judging.{IsFoundUpTo}
use Rattle.eco_audit.proofs.auditing.audit_patched.Goals as goal

pub ruled_by_outputs-requires-clause-before : goal.ruled_by_outputs-requires-clause-before
ruled_by_outputs-requires-clause-before g c =
    subst (IsFoundUpTo 12 c.args.solution.now) c.in-None.is c.in_ok-found.ensures

pub returns-in-Some-clause-ruling : goal.returns-in-Some-clause-ruling
returns-in-Some-clause-ruling g c =
    subst (IsFoundUpTo 12 c.args.solution.now) c.in-Some.is c.in_ok-found.ensures
