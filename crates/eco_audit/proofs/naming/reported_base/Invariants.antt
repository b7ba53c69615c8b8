-- The signals of the groups so far.
use Rattle.std.proofs.Common.{◌≡◌, map, take}
use Rattle.eco_meaning.specs.Report.{base_in}
use Rattle.eco_audit.proofs.naming.reported_base.Given as goal

abbrev pub invariant-loop-group : goal.invariant-loop-group
invariant-loop-group l = map (λ b. b.now) l.base.items ≡ base_in (take l.group-index l.groups)
