use Rattle.eco_functions.proofs.GraftLemmas.{AreLeaves}
use Rattle.eco_functions.proofs.grafting.leaf_images.Given as goal

abbrev pub invariant-loop-place : goal.invariant-loop-place
invariant-loop-place l = AreLeaves l.fn.into l.fn.from l.place l.images.items
