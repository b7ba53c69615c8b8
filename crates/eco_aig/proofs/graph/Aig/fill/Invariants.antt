-- The nodes so far have their bits.
use Rattle.eco_aig.proofs.Filling.{IsFilledTo}
use Rattle.eco_aig.proofs.graph.Aig.fill.Given as goal

abbrev pub invariant-loop-number : goal.invariant-loop-number
invariant-loop-number l = IsFilledTo l.self l.initial.values l.number l.values
