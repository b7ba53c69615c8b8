-- The walk stands, with a mark for each gate, and fewer gates are to be followed each time.
use Rattle.std.proofs.Common.{◌≡◌, length}
use Rattle.eco_locate.specs.Ranking.{IsCone, steps_left}
use Rattle.eco_locate.proofs.cone.cone_of.Given as goal

abbrev pub invariant-loop-number : goal.invariant-loop-number
invariant-loop-number l = IsCone l.cone × (length l.cone.seen.items ≡ length l.gates)

abbrev pub decreases-loop-number : goal.decreases-loop-number
decreases-loop-number l = steps_left l.cone
