-- All are needed that the groups so far tell.
use Rattle.eco_audit.specs.Judging.{needs}
use Rattle.eco_audit.proofs.Groups.{FirstSaid}
use Rattle.eco_audit.proofs.judging.first_unneeded.Given as goal

abbrev pub invariant-loop-number : goal.invariant-loop-number
invariant-loop-number g l = FirstSaid (needs l.solution) l.solution.report.now.groups l.number
