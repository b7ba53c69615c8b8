-- The edge is that of the clause so far.
use Rattle.eco_aig.specs.Graph.{Grows}
use Rattle.eco_itp.proofs.Chaining.{IsAlong}
use Rattle.eco_itp.proofs.chain.resolved_along.Given as goal

abbrev pub invariant-loop-link : goal.invariant-loop-link
invariant-loop-link l = record {
  along : IsAlong l.parts l.aig l.edges l.fn.start l.links l.link-index l.edge;
  grows : Grows l.fn.aig l.aig l.link-index;
}
