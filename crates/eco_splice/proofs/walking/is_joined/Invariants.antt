-- The edge spans the operands where the edges that wait cover those that are left.
use Rattle.std.proofs.Common.{◌↔◌, ◌+◌, ◌-◌, ◌≤◌, false, length, reverse}
use Rattle.eco_splice.specs.Trees.{Spans}
use Rattle.eco_splice.specs.Walks.{Covers}
use Rattle.eco_splice.proofs.walking.is_joined.Given as goal

abbrev pub invariant-loop-next : goal.invariant-loop-next
invariant-loop-next l =
    (Spans l.aig l.join l.fn.edge l.operands false ↔ Covers l.aig l.join (reverse l.stack.items) l.left.operands.now l.left.turned)
    × (length l.stack.items ≤ length l.left.operands.now)

abbrev pub decreases-loop-next : goal.decreases-loop-next
decreases-loop-next l = length l.left.operands.now + length l.left.operands.now - length l.stack.items
