-- The walk from the gate has begun, and at each step fewer steps are left.
use Rattle.eco_gates.specs.Walk.{steps_left}
use Rattle.eco_gates.proofs.Walked.{Begun}
use Rattle.eco_gates.proofs.ordering.walk_from.Given as goal

abbrev pub invariant-loop-first : goal.invariant-loop-first
invariant-loop-first l = Begun l.gates l.drivers l.root l.fn.walk l.walk

abbrev pub decreases-loop-first : goal.decreases-loop-first
decreases-loop-first l = steps_left l.walk.marks.items l.walk.stack.items
