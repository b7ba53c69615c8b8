-- The marked nets so far, and those of the rest.
use Rattle.std.proofs.Common.{◌≡◌, ◌++◌, length}
use Rattle.eco_least.specs.Weighed.{marked_of}
use Rattle.eco_least.proofs.lists.marked.Given as goal

abbrev pub decreases-loop-net : goal.decreases-loop-net
decreases-loop-net l = length l.turns

abbrev pub invariant-loop-net : goal.invariant-loop-net
invariant-loop-net l = marked_of l.initial.turns l.initial.marks ≡ l.list.items ++ marked_of l.turns l.marks
