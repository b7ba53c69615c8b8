-- The inputs so far have their edges.
use Rattle.std.proofs.Common.{take}
use Rattle.eco_tuples.specs.Graphs.{AreRightEdges, IsTargetGraph}
use Rattle.eco_tuples.proofs.posing.right_edges.Given as goal

abbrev pub invariant-loop-input : goal.invariant-loop-input
invariant-loop-input l =
    AreRightEdges l.problem l.targets (take l.input-index l.tuple) l.edges.items × IsTargetGraph l.problem.implementation l.targets
