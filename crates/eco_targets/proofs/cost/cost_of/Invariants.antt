-- What the groups so far cost, which is at most the greatest weight for each of their signals.
use Rattle.std.proofs.Common.{◌≡◌, ◌≤◌, ◌*◌, take, length}
use Rattle.eco_meaning.specs.Report.{cost_of, base_in}
use Rattle.eco_targets.proofs.cost.cost_of.Given as goal

abbrev pub invariant-loop-group : goal.invariant-loop-group
invariant-loop-group l = record {
  cost : l.cost ≡ cost_of (base_in (take l.group-index l.groups));
  bound : l.cost ≤ length (base_in (take l.group-index l.groups)) * 4294967295;
}
