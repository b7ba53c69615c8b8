-- A bit for each node so far.
use Rattle.std.proofs.Common.{◌≡◌, length}
use Rattle.eco_merge.proofs.row.drawn.Given as goal

abbrev pub invariant-loop : goal.invariant-loop
invariant-loop l = length l.bits.items ≡ l.counter
