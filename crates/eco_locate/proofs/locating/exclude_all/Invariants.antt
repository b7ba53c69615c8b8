-- Nets have only gone into the lists.
use Rattle.std.proofs.Common.{ℕ}
use Rattle.eco_locate.specs.Judged.{IsJudgedTo}
use Rattle.eco_locate.proofs.locating.exclude_all.Given as goal

abbrev pub invariant-loop-input : goal.invariant-loop-input
invariant-loop-input l =
    (limit : ℕ) → IsJudgedTo l.change.old l.change.goal limit l.initial.progress.left.items l.initial.progress.located → IsJudgedTo l.change.old l.change.goal limit l.progress.left.items l.progress.located
