-- What stands for nodes has their values, and each node so far has a place.
use Rattle.std.proofs.Common.{◌≡◌, length}
use Rattle.eco_aig.specs.Swept.{IsSwept}
use Rattle.eco_aig.proofs.images.Images.stretch.Given as goal

abbrev pub invariant-loop-number : goal.invariant-loop-number
invariant-loop-number l = record {
  swept : IsSwept l.aig l.self-inside.edges.items;
  reach : length l.self-inside.edges.items ≡ l.number;
}
