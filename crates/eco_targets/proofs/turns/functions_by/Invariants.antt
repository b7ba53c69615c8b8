-- The target is one of the problem, and as many of the first targets as there were turns have their functions; before the first turn
-- it stands where it begins.
use Rattle.std.proofs.Common.{◌≡◌, [], length}
use Rattle.eco_base.specs.Targets.{IsTargetOf}
use Rattle.eco_progress.specs.Progress.{IsProgress}
use Rattle.eco_progress.specs.ByWay.{IsProgressBy}
use Rattle.eco_progress.specs.Standing.{StandsAt}
use Rattle.eco_targets.proofs.turns.functions_by.Given as goal

abbrev pub invariant-loop-turn : goal.invariant-loop-turn
invariant-loop-turn g l = record {
  same : IsTargetOf l.fn.target.problem l.fn.target.limit l.target;
  progress : IsProgress l.fn.target.problem l.progress;
  count : length l.progress.groups.items ≡ l.turn;
  by : IsProgressBy l.fn.way l.fn.target.problem l.progress;
  first : l.progress.groups.items ≡ [] → StandsAt l.progress l.target;
}
