-- What was taken so far.
use Rattle.std.proofs.Common.{ℕ, List}
use Rattle.eco_floor.specs.declared.decision.Decision.{Decision}
use Rattle.eco_floor.specs.Search.{IsPacked}
use Rattle.eco_floor.proofs.packing.is_above.Given as goal

abbrev pub invariant-loop-share : goal.invariant-loop-share
invariant-loop-share l =
    (weights : List ℕ) (decisions : List Decision) → IsPacked l.rows weights decisions l.initial.slack.items l.start
    → IsPacked l.rows weights decisions l.slack.items l.sum
