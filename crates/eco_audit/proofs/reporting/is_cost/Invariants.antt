-- What is left of the cost.
use Rattle.std.proofs.Common.{◌≡◌, ◌+◌, map, take}
use Rattle.eco_meaning.specs.Report.{cost_of}
use Rattle.eco_audit.proofs.reporting.is_cost.Given as goal

abbrev pub invariant-loop-reported : goal.invariant-loop-reported
invariant-loop-reported l = l.cost ≡ cost_of (map (λ b. b.now) (take l.reported-index l.base)) + l.left
