-- The outputs so far are compared.
use Rattle.eco_compile.proofs.Differing.{IsComparedTo}
use Rattle.eco_compile.proofs.wrong.differences.Given as goal

abbrev pub invariant-loop-place : goal.invariant-loop-place
invariant-loop-place l = IsComparedTo l.outputs l.wanted l.initial.aig l.aig l.place l.wrong
