-- The outputs so far may read the signal, where it reaches them.
use Rattle.std.proofs.Common.{ℕ, List, ◌<◌}
use Rattle.eco_meaning.specs.Circuit.{Fan}
use Rattle.eco_meaning.specs.Patch.{IsBehindOnly}
use Rattle.eco_audit.specs.Checks.{AreReachedMarks, AtOutput, IsSourceOf}
use Rattle.eco_audit.proofs.reaching.are_in_time.Given as goal

abbrev pub invariant-loop-place : goal.invariant-loop-place
invariant-loop-place l =
    (name : List ℕ) → IsSourceOf l.problem l.source name → AreReachedMarks l.patch name l.marks → (k : ℕ) → k < l.place →
    AtOutput l.patch k (λ first target. Fan l.patch name target → IsBehindOnly l.problem.implementation first name)
