-- The nodes so far have copies.
use Rattle.std.proofs.Common.{◌≡◌, length}
use Rattle.eco_sweep.specs.Parts.{Mirrors}
use Rattle.eco_sweep.proofs.part.copied.Given as goal

abbrev pub invariant-loop-node : goal.invariant-loop-node
invariant-loop-node l = record {
  mirrors : Mirrors l.aig l.cone.nodes.items l.part.graph l.part.copies.items;
  count : length l.part.copies.items ≡ l.node-index;
}
