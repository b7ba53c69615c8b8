-- The marked nodes so far have images, and the state is ready and merged.
use Rattle.std.proofs.Common.{List, [], ◌∷◌, ◌++◌}
use Rattle.eco_aig.specs.declared.edge.Edge.{Edge}
use Rattle.eco_aig.specs.declared.node.Node.{Node}
use Rattle.eco_merge.specs.Steps.{IsMerged, IsReady}
use Rattle.eco_merge.proofs.Reducing.{AreVisited}
use Rattle.eco_merge.proofs.merging.Merging.reduce.Given as goal

abbrev pub invariant-loop-node : goal.invariant-loop-node
invariant-loop-node g l = record {
  ready : IsReady l.aig l.limit l.self;
  visited : AreVisited l.fn.aig l.fn.self.images.items l.aig l.self.images.items l.marks.items l.node;
  merged : (old : List Node) (roots : List Edge) → IsMerged old roots l.fn.aig l.fn.self → IsMerged old (roots ++ l.edge ∷ []) l.aig l.self;
}
