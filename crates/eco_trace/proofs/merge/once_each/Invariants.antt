use Rattle.eco_trace.specs.Merging.{HasTaken}
use Rattle.eco_trace.proofs.merge.once_each.Given as goal

abbrev pub invariant-loop-lit : goal.invariant-loop-lit
invariant-loop-lit l = HasTaken l.sorted l.lit-index l.clause.items
