-- Each set that agrees with the decisions that are left weighs enough.
use Rattle.std.proofs.Common.{ℕ, List, length}
use Rattle.eco_floor.specs.Search.{AreAbove, AreSettled}
use Rattle.eco_floor.proofs.search.turn.Given as goal

abbrev pub invariant-loop-last : goal.invariant-loop-last
invariant-loop-last l =
    (rows : List (List ℕ)) (weights : List ℕ) (best : ℕ) → AreAbove rows weights best l.initial.decisions.items
    → AreSettled rows weights best l.initial.decisions.items
    → AreAbove rows weights best l.decisions.items × AreSettled rows weights best l.decisions.items

abbrev pub decreases-loop-last : goal.decreases-loop-last
decreases-loop-last l = length l.decisions.items
