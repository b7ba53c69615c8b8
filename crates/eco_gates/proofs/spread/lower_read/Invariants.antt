-- The numbers of the nets that the terms so far read.
use Rattle.eco_gates.specs.Spread.{AreLowered}
use Rattle.eco_gates.proofs.spread.lower_read.Given as goal

abbrev pub invariant-loop-term : goal.invariant-loop-term
invariant-loop-term l = AreLowered l.terms l.term-index l.most l.initial.numbers l.numbers
