-- The chain gives the marked clause, of which nothing is left from the end on.
use Rattle.std.proofs.Common.{◌≡◌, ◌+◌, ◌≤◌, length}
use Rattle.eco_trace.specs.Resolution.{clauses_of}
use Rattle.eco_learn.specs.Marks.{AreUnseen}
use Rattle.eco_learn.specs.Chains.{IsChainSoFar}
use Rattle.eco_learn.proofs.chain.Chain.walk_down.Given as goal

abbrev pub invariant-loop-place : goal.invariant-loop-place
invariant-loop-place l =
    (l.end ≤ l.last + 1) × (l.self.start ≡ l.initial.self.start) × (length l.self.marks ≡ length l.initial.self.marks) × IsChainSoFar (clauses_of l.trace) l.trail l.self × AreUnseen l.trail.lits l.self.marks l.end (length l.trail.lits)

abbrev pub decreases-loop-place : goal.decreases-loop-place
decreases-loop-place l = l.end
