-- The inputs so far wait for no gate.
use Rattle.eco_gates.specs.Walk.{AreReady}
use Rattle.eco_gates.proofs.walk.first_unfinished.Given as goal

abbrev pub invariant-loop-at : goal.invariant-loop-at
invariant-loop-at l = AreReady l.drivers l.marks l.terms l.from l.at
