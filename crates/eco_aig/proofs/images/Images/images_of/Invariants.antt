-- The edges so far have images.
use Rattle.std.proofs.Common.{List, take}
use Rattle.std.specs.List.{All, AllZip}
use Rattle.eco_aig.specs.declared.node.Node.{Node}
use Rattle.eco_aig.specs.Graph.{IsEdge}
use Rattle.eco_aig.specs.Swept.{IsSwept, AreImages, StandsFor}
use Rattle.eco_aig.proofs.images.Images.images_of.Given as goal

abbrev pub invariant-loop-edge : goal.invariant-loop-edge
invariant-loop-edge l = record {
  stand : AllZip (StandsFor l.self) (take l.edge-index l.edges) l.images.items;
  images : (nodes : List Node) → All (IsEdge nodes) l.edges → IsSwept nodes l.self → AreImages nodes (take l.edge-index l.edges) l.images.items;
}
