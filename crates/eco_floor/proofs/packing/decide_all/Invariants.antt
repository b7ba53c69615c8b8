-- What was taken so far.
use Rattle.std.proofs.Common.{ℕ, List}
use Rattle.eco_floor.specs.Search.{IsPacked}
use Rattle.eco_floor.proofs.packing.decide_all.Given as goal

abbrev pub invariant-loop-decision : goal.invariant-loop-decision
invariant-loop-decision l =
    (rows : List (List ℕ)) (weights : List ℕ) → IsPacked rows weights l.decisions l.initial.slack.items 0
    → IsPacked rows weights l.decisions l.slack.items l.sum
