-- The chain gives the marked clause, whose last literal is at the place.
use Rattle.std.proofs.Common.{◌≡◌, ◌+◌, ◌≤◌, length}
use Rattle.eco_trace.specs.Resolution.{clauses_of}
use Rattle.eco_learn.specs.Marks.{IsSeenAt, AreUnseen}
use Rattle.eco_learn.specs.Chains.{IsChainSoFar}
use Rattle.eco_learn.proofs.chain.Chain.walk_to_point.Given as goal

abbrev pub invariant-loop-other : goal.invariant-loop-other
invariant-loop-other l =
    (l.first ≤ l.place) × (l.place ≤ l.last) × (l.self.start ≡ l.initial.self.start) × (length l.self.marks ≡ length l.initial.self.marks) × IsChainSoFar (clauses_of l.trace) l.trail l.self × IsSeenAt l.trail.lits l.self.marks l.place × AreUnseen l.trail.lits l.self.marks (l.place + 1) (length l.trail.lits)

abbrev pub decreases-loop-other : goal.decreases-loop-other
decreases-loop-other l = l.place
