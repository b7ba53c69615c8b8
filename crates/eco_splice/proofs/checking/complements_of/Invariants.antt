use Rattle.std.proofs.Common.{◌≡◌, map, take}
use Rattle.eco_aig.specs.Edges.{complement}
use Rattle.eco_splice.proofs.checking.complements_of.Given as goal

abbrev pub invariant-loop-edge : goal.invariant-loop-edge
invariant-loop-edge l = l.complements.items ≡ map complement (take l.edge-index l.edges)
