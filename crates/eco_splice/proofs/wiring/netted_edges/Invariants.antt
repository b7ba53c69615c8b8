use Rattle.std.proofs.Common.{◌≡◌, ℕ, false, length, get_or}
use Rattle.eco_splice.specs.Wired.{gates_below, is_inverted, wired_below}
use Rattle.eco_splice.specs.GraphPatch.{netted}
use Rattle.eco_splice.proofs.wiring.netted_edges.Given as goal

abbrev pub invariant-loop-node : goal.invariant-loop-node
invariant-loop-node l = record {
  count : length l.inverted.items ≡ length l.aig;
  inverted : (k : ℕ) → get_or l.inverted.items k false ≡ is_inverted l.aig (gates_below l.aig l.marks l.node) k;
  edges : l.edges.items ≡ netted l.aig (wired_below l.aig l.marks l.node);
}
