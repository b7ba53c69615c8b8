-- What is shown is a bound.
use Rattle.eco_floor.specs.Sets.{IsFloor}
use Rattle.eco_floor.proofs.bounding.lower_bound.Given as goal

abbrev pub invariant-loop : goal.invariant-loop
invariant-loop l = IsFloor l.rows l.weights l.shown
