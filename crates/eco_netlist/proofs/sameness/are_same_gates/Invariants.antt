use Rattle.std.proofs.Common.{◌≡◌, take}
use Rattle.eco_netlist.proofs.sameness.are_same_gates.Given as goal

abbrev pub invariant-loop-place : goal.invariant-loop-place
invariant-loop-place l = take l.place l.first ≡ take l.place l.second
