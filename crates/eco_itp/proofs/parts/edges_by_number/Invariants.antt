-- The map has the edges so far.
use Rattle.std.proofs.Common.{nat_eq, take}
use Rattle.std.specs.HashMap.{get}
use Rattle.eco_itp.proofs.Looking.{AreEdges}
use Rattle.eco_itp.proofs.parts.edges_by_number.Given as goal

abbrev pub invariant-loop-var : goal.invariant-loop-var
invariant-loop-var l = AreEdges (get nat_eq l.edges) (take l.var-index l.shared)
