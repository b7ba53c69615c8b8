-- The nets so far have the given edges.
use Rattle.std.proofs.Common.{length}
use Rattle.eco_compile.proofs.OpenNets.{IsBoundTo}
use Rattle.eco_meaning.specs.Circuit.{names}
use Rattle.eco_compile.proofs.binding.bound_edges.Given as goal

abbrev pub invariant-loop-place : goal.invariant-loop-place
invariant-loop-place l = IsBoundTo l.aig l.net-items l.bind (length (names l.netlist)) l.place l.edges.items
