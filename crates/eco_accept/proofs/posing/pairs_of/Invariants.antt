-- The inputs so far are paired.
use Rattle.eco_aig.specs.Graph.{inputs_of}
use Rattle.eco_accept.specs.Posing.{ArePairsBefore}
use Rattle.eco_accept.proofs.posing.pairs_of.Given as goal

abbrev pub invariant-loop-place : goal.invariant-loop-place
invariant-loop-place l = ArePairsBefore (inputs_of l.aig) l.shared l.encoder.nodes l.place l.pairs.items
