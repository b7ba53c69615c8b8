-- The terms so far are joined.
use Rattle.eco_compile.proofs.Joining.{IsJoinedTo}
use Rattle.eco_compile.proofs.join.join_rest.Given as goal

abbrev pub invariant-loop-term : goal.invariant-loop-term
invariant-loop-term l = IsJoinedTo l.join l.fn.first l.rest l.edges l.initial.aig l.aig l.term-index l.edge
