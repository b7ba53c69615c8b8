-- The nodes so far have their signatures.
use Rattle.std.proofs.Common.{◌≡◌, length}
use Rattle.eco_merge.specs.Signatures.{AreSignatures}
use Rattle.eco_merge.proofs.signature.signatures_of.Given as goal

abbrev pub invariant-loop-node : goal.invariant-loop-node
invariant-loop-node l = record {
  count : length l.signatures.items ≡ l.node;
  each : AreSignatures l.rows l.signatures.items;
}
