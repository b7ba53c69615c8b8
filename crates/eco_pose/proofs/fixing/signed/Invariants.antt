-- The edges so far.
use Rattle.std.proofs.Common.{◌≡◌, take}
use Rattle.eco_pose.specs.Boards.{signed}
use Rattle.eco_pose.proofs.fixing.signed.Given as goal

abbrev pub invariant-loop-place : goal.invariant-loop-place
invariant-loop-place l = l.made.items ≡ signed l.edges (take l.place l.bits)
