-- The edges so far are reduced.
use Rattle.eco_merge.proofs.Sweeping.{IsSweeping}
use Rattle.eco_merge.proofs.edges.sweep.Given as goal

abbrev pub invariant-loop-root : goal.invariant-loop-root
invariant-loop-root g l = IsSweeping l.fn.aig l.roots l.limit l.root-index l.aig l.merging l.swept.items
