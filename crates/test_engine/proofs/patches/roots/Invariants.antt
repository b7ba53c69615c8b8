-- The edges so far are edges of the graph.
use Rattle.eco_compile.specs.Compiled.{AreEdges}
use Rattle.test_engine.proofs.patches.roots.Given as goal

abbrev pub invariant-loop-source : goal.invariant-loop-source
invariant-loop-source g l = AreEdges l.graph l.roots.items
