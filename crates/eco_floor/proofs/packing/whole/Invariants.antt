-- The weights so far.
use Rattle.std.proofs.Common.{◌≡◌, map, take, Some}
use Rattle.eco_floor.proofs.packing.whole.Given as goal

abbrev pub invariant-loop-weight : goal.invariant-loop-weight
invariant-loop-weight l = l.slack.items ≡ map Some (take l.weight-index l.weights)
