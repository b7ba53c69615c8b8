use Rattle.std.proofs.Common.{◌≡◌, map, take}
use Rattle.eco_pose.specs.Boards.{constant_edge}
use Rattle.eco_pose.proofs.board.constants.Given as goal

abbrev pub invariant-loop-bit : goal.invariant-loop-bit
invariant-loop-bit l = l.edges.items ≡ map constant_edge (take l.bit-index l.bits)
