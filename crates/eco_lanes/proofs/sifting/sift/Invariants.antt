-- Each net is in the rest, left or taken, and those that are left or taken have their bits.
use Rattle.std.proofs.Common.{length}
use Rattle.eco_lanes.proofs.SiftLemmas.{AreSiftedTo}
use Rattle.eco_lanes.proofs.sifting.sift.Given as goal

abbrev pub invariant-loop-rest : goal.invariant-loop-rest
invariant-loop-rest l = AreSiftedTo l.f l.input l.wanted l.nets l.rest l.sifted.left.items l.sifted.taken.items

abbrev pub decreases-loop-rest : goal.decreases-loop-rest
decreases-loop-rest l = length l.rest
