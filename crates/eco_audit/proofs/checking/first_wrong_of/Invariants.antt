-- The signals so far pass.
use Rattle.std.proofs.Common.{take}
use Rattle.std.specs.List.{All}
use Rattle.eco_meaning.specs.Report.{PatchReport}
use Rattle.eco_audit.specs.Checks.{AtGroup, CanBeChecked, says}
use Rattle.eco_audit.proofs.checking.first_wrong_of.Given as goal

abbrev pub invariant-loop-reported : goal.invariant-loop-reported
invariant-loop-reported l =
    (report : PatchReport) → CanBeChecked l.problem l.patch report l.check →
    AtGroup report l.number (λ before group. All (says l.check l.problem l.patch before group) (take l.reported-index l.base))
