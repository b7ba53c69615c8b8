-- The chain gives the marked clause, and the point stays.
use Rattle.std.proofs.Common.{◌≡◌, Some, length}
use Rattle.eco_trace.specs.Resolution.{clauses_of}
use Rattle.eco_learn.specs.Marks.{IsWalked}
use Rattle.eco_learn.specs.Chains.{IsChainSoFar}
use Rattle.eco_learn.proofs.chain.Chain.minimise.Given as goal

abbrev pub invariant-loop-other : goal.invariant-loop-other
invariant-loop-other l =
    (l.self.start ≡ l.initial.self.start) × (length l.self.marks ≡ length l.initial.self.marks) × IsChainSoFar (clauses_of l.trace) l.trail l.self × IsWalked l.trail l.self.marks (Some l.place)
