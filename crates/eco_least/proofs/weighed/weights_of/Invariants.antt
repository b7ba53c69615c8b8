-- The weights so far.
use Rattle.std.proofs.Common.{◌≡◌, map, take}
use Rattle.eco_least.specs.Weighed.{weight_at}
use Rattle.eco_least.proofs.weighed.weights_of.Given as goal

abbrev pub invariant-loop-net : goal.invariant-loop-net
invariant-loop-net l = l.weights.items ≡ map (weight_at l.problem) (take l.net-index l.turns)
