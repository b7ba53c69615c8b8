-- All passes that the groups so far tell.
use Rattle.eco_audit.specs.Checks.{says}
use Rattle.eco_audit.proofs.Groups.{FirstSaid}
use Rattle.eco_audit.proofs.checking.first_wrong.Given as goal

abbrev pub invariant-loop-number : goal.invariant-loop-number
invariant-loop-number l = FirstSaid (says l.check l.problem l.patch) l.report.groups l.number
