-- There are as many bits as places so far.
use Rattle.std.proofs.Common.{◌≡◌, length}
use Rattle.test_engine.proofs.rows.row_of.Given as goal

abbrev pub invariant-loop-place : goal.invariant-loop-place
invariant-loop-place g l = length l.row.items ≡ l.place
