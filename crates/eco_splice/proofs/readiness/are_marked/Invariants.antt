-- The nodes so far keep their marks.
use Rattle.std.proofs.Common.{take}
use Rattle.std.specs.List.{All}
use Rattle.eco_splice.specs.Tables.{HasMark}
use Rattle.eco_splice.proofs.readiness.are_marked.Given as goal

abbrev pub invariant-loop-node : goal.invariant-loop-node
invariant-loop-node l = All (λ node. HasMark l.first node → HasMark l.second node) (take l.node-index l.nodes)
