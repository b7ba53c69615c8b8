-- It is the least of the candidates so far.
use Rattle.std.proofs.Common.{take}
use Rattle.eco_bound.specs.Payers.{IsLeastLeft}
use Rattle.eco_bound.proofs.payers.least_left.Given as goal

abbrev pub invariant-loop-payer : goal.invariant-loop-payer
invariant-loop-payer l = IsLeastLeft l.sight (take l.payer-index l.payers) l.least
