-- The complements so far.
use Rattle.std.proofs.Common.{◌≡◌, ◌∷◌, map, take}
use Rattle.eco_trace.specs.Clauses.{complement}
use Rattle.eco_clauses.proofs.clauses.before_complements.Given as goal

abbrev pub invariant-loop-lit : goal.invariant-loop-lit
invariant-loop-lit l = l.all.items ≡ l.fn.first ∷ map complement (take l.lit-index l.others)
