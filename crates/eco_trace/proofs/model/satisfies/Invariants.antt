use Rattle.std.proofs.Common.{All, take}
use Rattle.eco_trace.specs.Clauses.{HoldsIn, valuation_of}
use Rattle.eco_trace.proofs.model.satisfies.Given as goal

abbrev pub invariant-loop-clause : goal.invariant-loop-clause
invariant-loop-clause l = All (HoldsIn (valuation_of l.model)) (take l.clause-index l.clause-items)
