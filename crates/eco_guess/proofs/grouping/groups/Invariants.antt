-- There are as many numbers as before.
use Rattle.std.proofs.Common.{◌≡◌, length}
use Rattle.eco_guess.proofs.grouping.groups.Given as goal

abbrev pub invariant-loop-node : goal.invariant-loop-node
invariant-loop-node l = length l.firsts.items ≡ length l.initial.firsts.items
