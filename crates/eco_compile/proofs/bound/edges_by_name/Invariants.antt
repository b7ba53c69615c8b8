-- The nets so far have their edges.
use Rattle.eco_meaning.specs.Circuit.{names}
use Rattle.eco_compile.proofs.ByName.{AreFoundTo}
use Rattle.eco_compile.proofs.bound.edges_by_name.Given as goal

abbrev pub invariant-loop-net : goal.invariant-loop-net
invariant-loop-net l = AreFoundTo (names l.from) l.nets l.to l.table l.net-index l.edges.items
