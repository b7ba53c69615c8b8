-- The clauses so far have their edges.
use Rattle.std.proofs.Common.{◌≡◌, length, take}
use Rattle.eco_aig.specs.Graph.{Grows}
use Rattle.eco_itp.specs.Partial.{ArePartial}
use Rattle.eco_itp.specs.Bound.{literals_of_a}
use Rattle.eco_itp.proofs.leaf.leaves.Given as goal

abbrev pub invariant-loop-number : goal.invariant-loop-number
invariant-loop-number l = record {
  count : length l.edges.items ≡ l.number;
  partial : ArePartial l.parts l.aig l.parts.trace.now.originals l.edges.items;
  grows : Grows l.fn.aig l.aig (literals_of_a (take l.number l.parts.trace.now.originals) (take l.number l.parts.side.now));
}
