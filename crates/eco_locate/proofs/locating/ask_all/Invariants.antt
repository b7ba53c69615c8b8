-- What is told so far is true.
use Rattle.std.proofs.Common.{length}
use Rattle.eco_locate.specs.Judged.{IsJudgedTo}
use Rattle.eco_locate.proofs.locating.ask_all.Given as goal

abbrev pub invariant-loop-net : goal.invariant-loop-net
invariant-loop-net g l = IsJudgedTo l.change.old l.change.goal l.limit l.progress.left.items l.progress.located

abbrev pub decreases-loop-net : goal.decreases-loop-net
decreases-loop-net g l = length l.progress.left.items
