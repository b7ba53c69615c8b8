-- The clauses so far have their edges.
use Rattle.std.proofs.Common.{◌≡◌, ◌-◌, length, take}
use Rattle.eco_trace.specs.Resolution.{clauses_of}
use Rattle.eco_aig.specs.Graph.{Grows}
use Rattle.eco_itp.specs.Partial.{ArePartial}
use Rattle.eco_itp.specs.Bound.{links_of}
use Rattle.eco_itp.proofs.chain.add_learnt.Given as goal

abbrev pub invariant-loop-number : goal.invariant-loop-number
invariant-loop-number l = record {
  count : length l.edges.items ≡ l.number;
  partial : ArePartial l.parts l.aig (clauses_of l.parts.trace.now) l.edges.items;
  grows : Grows l.fn.aig l.aig (links_of (take (l.number - length l.parts.trace.now.originals) l.parts.trace.now.learnt));
}
