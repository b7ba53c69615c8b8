-- The inputs so far.
use Rattle.std.proofs.Common.{◌≡◌, length}
use Rattle.eco_aig.proofs.InputEdges.{IsOfInputs}
use Rattle.eco_aig.proofs.input_graph.new_graph.Given as goal

abbrev pub invariant-loop : goal.invariant-loop
invariant-loop l = IsOfInputs l.aig l.edges.items × (length l.edges.items ≡ l.counter)
