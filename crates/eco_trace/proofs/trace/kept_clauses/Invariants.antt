use Rattle.std.proofs.Common.{◌≡◌, map, take}
use Rattle.eco_trace.proofs.trace.kept_clauses.Given as goal

abbrev pub invariant-loop-clause : goal.invariant-loop-clause
invariant-loop-clause l = map (λ c. c.items) l.kept.items ≡ map (λ c. c.now) (take l.clause-index l.clauses)
