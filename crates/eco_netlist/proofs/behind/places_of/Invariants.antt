-- The places so far.
use Rattle.eco_netlist.specs.Reached.{ArePlaces}
use Rattle.eco_netlist.proofs.behind.places_of.Given as goal

abbrev pub invariant-loop-place : goal.invariant-loop-place
invariant-loop-place l = ArePlaces l.nets l.listed l.place l.first l.other l.numbers.items
