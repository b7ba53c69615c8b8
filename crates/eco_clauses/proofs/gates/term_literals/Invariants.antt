-- The literals so far.
use Rattle.std.proofs.Common.{◌≡◌, map, take}
use Rattle.eco_clauses.specs.Numbers.{term_literal}
use Rattle.eco_clauses.proofs.gates.term_literals.Given as goal

abbrev pub invariant-loop-term : goal.invariant-loop-term
invariant-loop-term l = l.ins.items ≡ map (term_literal l.lits) (take l.term-index l.terms)
