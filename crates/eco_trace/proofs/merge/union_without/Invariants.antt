use Rattle.std.proofs.Common.{◌+◌, length}
use Rattle.eco_trace.specs.Merging.{IsMerging}
use Rattle.eco_trace.proofs.merge.union_without.Given as goal

abbrev pub invariant-loop-lit : goal.invariant-loop-lit
invariant-loop-lit l = IsMerging l.pivot l.left l.right l.union.items l.heads.left.now l.heads.right.now

abbrev pub decreases-loop-lit : goal.decreases-loop-lit
decreases-loop-lit l = length l.heads.left.now + length l.heads.right.now
