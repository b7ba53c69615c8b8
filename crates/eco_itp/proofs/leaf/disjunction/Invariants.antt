-- The edge is the disjunction of the literals so far.
use Rattle.std.proofs.Common.{take}
use Rattle.eco_aig.specs.Graph.{HasValue, Grows}
use Rattle.eco_itp.specs.Parts.{leaf_value}
use Rattle.eco_itp.proofs.leaf.disjunction.Given as goal

abbrev pub invariant-loop-lit : goal.invariant-loop-lit
invariant-loop-lit l = record {
  value : HasValue l.aig l.edge (λ w. leaf_value l.parts w (take l.lit-index l.clause));
  grows : Grows l.fn.aig l.aig l.lit-index;
}
