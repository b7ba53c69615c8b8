-- What is known is true of the graph, to which a node a turn was added, and the limit stays.
use Rattle.std.proofs.Common.{◌≡◌}
use Rattle.eco_aig.specs.Graph.{Grows}
use Rattle.eco_aig.specs.Swept.{IsSwept}
use Rattle.eco_sweep.proofs.sweeper.Sweeper.reduce.Given as goal

abbrev pub invariant-loop-node : goal.invariant-loop-node
invariant-loop-node g l = record {
  swept : IsSwept l.aig l.self.map;
  limit : l.self.limit ≡ l.fn.self.limit;
  grows : Grows l.fn.aig l.aig l.node-index;
}
