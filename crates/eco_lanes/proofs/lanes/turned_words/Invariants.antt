-- The lanes so far have their nets, and the others none.
use Rattle.eco_lanes.proofs.LaneLemmas.{HasOneNets}
use Rattle.eco_lanes.proofs.lanes.turned_words.Given as goal

abbrev pub invariant-loop-place : goal.invariant-loop-place
invariant-loop-place l = HasOneNets l.count l.nets l.place l.words.items
