-- What is known stays, and there is a node a turn.
use Rattle.std.proofs.Common.{◌≡◌, ◌≤◌, vec_len}
use Rattle.eco_sweep.proofs.sweeper.Sweeper.reached.Given as goal

abbrev pub invariant-loop-edge : goal.invariant-loop-edge
invariant-loop-edge l = l.self ≡ l.fn.self

abbrev pub invariant-loop-place : goal.invariant-loop-place
invariant-loop-place l = record {
  kept : l.self ≡ l.fn.self;
  few : vec_len l.reached ≤ l.place;
}
