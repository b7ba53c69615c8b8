-- The nets so far are marked.
use Rattle.eco_gates.specs.Reach.{AreMarked}
use Rattle.eco_base.proofs.order.marks_of.Given as goal

abbrev pub invariant-loop-net : goal.invariant-loop-net
invariant-loop-net l = AreMarked l.count l.nets l.net-index l.marks.items
