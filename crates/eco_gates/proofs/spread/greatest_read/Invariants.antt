-- The greatest so far.
use Rattle.eco_gates.specs.Spread.{IsGreatestRead}
use Rattle.eco_gates.proofs.spread.greatest_read.Given as goal

abbrev pub invariant-loop-term : goal.invariant-loop-term
invariant-loop-term l = IsGreatestRead l.numbers l.own l.terms l.term-index l.greatest
