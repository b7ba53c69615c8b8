use Rattle.std.proofs.Common.{◌≡◌, map, take}
use Rattle.eco_trace.specs.Adding.{shifted}
use Rattle.eco_trace.proofs.clause.shifted_lits.Given as goal

abbrev pub invariant-loop-lit : goal.invariant-loop-lit
invariant-loop-lit l = l.moved.items ≡ map (shifted l.by) (take l.lit-index l.lits)
