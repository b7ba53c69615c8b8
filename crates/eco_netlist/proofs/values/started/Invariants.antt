-- The bits of the first inputs stand at their nets.
use Rattle.eco_netlist.specs.Values.{HasInputBits}
use Rattle.eco_netlist.proofs.values.started.Given as goal

abbrev pub invariant-loop-place : goal.invariant-loop-place
invariant-loop-place l = HasInputBits l.nets l.inputs l.input l.place l.bits.items
