-- The inputs so far have all bits.
use Rattle.std.proofs.Common.{take}
use Rattle.eco_tuples.specs.Graphs.{AreInputsOf}
use Rattle.eco_tuples.proofs.bounding.are_inputs.Given as goal

abbrev pub invariant-loop-input : goal.invariant-loop-input
invariant-loop-input l = AreInputsOf l.problem.implementation (take l.input-index l.tuple)
