-- What is known is true of the graph, to which a node a turn was added.
use Rattle.std.proofs.Common.{◌≡◌}
use Rattle.eco_aig.specs.Graph.{Grows}
use Rattle.eco_affine.specs.Forms.{IsFormed}
use Rattle.eco_affine.proofs.forms.Forms.reduce.Given as goal

abbrev pub invariant-loop-place : goal.invariant-loop-place
invariant-loop-place l = record {
  formed : IsFormed l.aig l.self;
  limit : l.self.limit ≡ l.fn.self.limit;
  grows : Grows l.fn.aig l.aig l.place;
}
