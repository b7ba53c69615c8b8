use Rattle.eco_aig.specs.Graph.{Grows}
use Rattle.eco_functions.specs.Grafts.{AreImages}
use Rattle.eco_functions.proofs.grafting.graft.Given as goal

abbrev pub invariant-loop-node : goal.invariant-loop-node
invariant-loop-node l = Grows l.fn.into l.into l.node × AreImages l.into l.from l.node l.images.items
