-- The gates so far have their edges.
use Rattle.eco_compile.proofs.Compiling.{IsCompiledTo}
use Rattle.eco_compile.proofs.gates.compile_gates.Given as goal

abbrev pub invariant-loop-number : goal.invariant-loop-number
invariant-loop-number l = IsCompiledTo l.gates l.order l.initial.aig l.aig l.initial.edges.items l.edges.items l.number-index
