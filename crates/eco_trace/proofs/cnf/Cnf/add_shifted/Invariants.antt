-- The clauses so far stand behind the others.
use Rattle.std.proofs.Common.{◌≡◌, map, take}
use Rattle.eco_trace.specs.Adding.{shifted, with_clauses}
use Rattle.eco_trace.proofs.cnf.Cnf.add_shifted.Given as goal

abbrev pub invariant-loop-clause : goal.invariant-loop-clause
invariant-loop-clause l = l.self ≡ with_clauses l.fn.self (map (map (shifted l.by)) (take l.clause-index l.clause-items))
