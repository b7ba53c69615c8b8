-- What the signals so far cost, which is at most the greatest weight for each.
use Rattle.std.proofs.Common.{◌≡◌, ◌≤◌, ◌*◌, take}
use Rattle.eco_meaning.specs.Report.{cost_of}
use Rattle.eco_targets.proofs.cost.group_cost.Given as goal

abbrev pub invariant-loop-signal : goal.invariant-loop-signal
invariant-loop-signal l = record {
  cost : l.cost ≡ cost_of (take l.signal-index l.base);
  bound : l.cost ≤ l.signal-index * 4294967295;
}
