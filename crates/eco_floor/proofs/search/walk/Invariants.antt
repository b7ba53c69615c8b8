-- The columns that are left out so far are dealt with.
use Rattle.eco_floor.specs.Search.{AreSettled}
use Rattle.eco_floor.proofs.search.walk.Given as goal

abbrev pub invariant-loop : goal.invariant-loop
invariant-loop l = AreSettled l.rows l.weights l.best l.decisions.items
