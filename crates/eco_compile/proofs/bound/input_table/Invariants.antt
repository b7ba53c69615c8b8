-- The inputs so far have their edges.
use Rattle.std.proofs.Common.{length}
use Rattle.eco_meaning.specs.Circuit.{names}
use Rattle.eco_compile.proofs.OpenNets.{IsBoundTo}
use Rattle.eco_compile.proofs.bound.input_table.Given as goal

abbrev pub invariant-loop-place : goal.invariant-loop-place
invariant-loop-place l = IsBoundTo l.aig l.net-items l.inputs (length (names l.f)) l.place l.table.items
