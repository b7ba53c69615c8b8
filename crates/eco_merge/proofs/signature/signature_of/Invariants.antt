-- The rows so far are taken in.
use Rattle.std.proofs.Common.{◌≡◌, drop}
use Rattle.eco_merge.specs.Signatures.{with_bits, signature_at}
use Rattle.eco_merge.proofs.signature.signature_of.Given as goal

abbrev pub invariant-loop-row : goal.invariant-loop-row
invariant-loop-row l =
    with_bits l.signature (drop l.row-index l.rows) l.edge ≡ signature_at l.rows l.node
