use Rattle.eco_aig.proofs.MarkLemmas.{AreMarkedFrom}
use Rattle.eco_aig.proofs.reach.reached.Given as goal

abbrev pub invariant-loop-node : goal.invariant-loop-node
invariant-loop-node l = AreMarkedFrom l.aig l.roots l.node l.marks.items
