use Rattle.std.proofs.Common.{◌≡◌, map, take}
use Rattle.eco_trace.proofs.trace.placed.Given as goal

abbrev pub invariant-loop-clause : goal.invariant-loop-clause
invariant-loop-clause l = map (λ c. c.now) l.placed.items ≡ take l.clause-index l.clauses
