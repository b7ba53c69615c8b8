use Rattle.eco_gates.specs.Reach.{AreMarked}
use Rattle.eco_query.proofs.order.marks_of.Given as goal

abbrev pub invariant-loop-net : goal.invariant-loop-net
invariant-loop-net l = AreMarked l.nets l.marked l.net-index l.marks.items
