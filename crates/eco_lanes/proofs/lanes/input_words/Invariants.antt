-- Each lane has the bits of the first inputs at their nets.
use Rattle.std.proofs.Common.{ℕ, ◌<◌}
use Rattle.eco_gates.specs.Words.{lane}
use Rattle.eco_netlist.specs.Values.{HasInputBits}
use Rattle.eco_lanes.proofs.lanes.input_words.Given as goal

abbrev pub invariant-loop-place : goal.invariant-loop-place
invariant-loop-place l = (place : ℕ) → place < 64 → HasInputBits l.nets l.inputs l.input l.place (lane l.words.items place)
