-- So many numbers are listed.
use Rattle.std.proofs.Common.{◌≡◌, length}
use Rattle.eco_guess.proofs.grouping.numbers.Given as goal

abbrev pub invariant-loop-number : goal.invariant-loop-number
invariant-loop-number l = length l.numbers.items ≡ l.number
