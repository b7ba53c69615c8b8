-- The variables of the part's clauses so far are known.
use Rattle.eco_trace.specs.Variables.{holds}
use Rattle.eco_trace.proofs.Occurring.{AreBefore}
use Rattle.eco_trace.proofs.variables.variables_of.Given as goal

abbrev pub invariant-loop-number : goal.invariant-loop-number
invariant-loop-number l = AreBefore (holds l.variables) (record { clauses = l.trace.originals; marks = l.marks }) l.part l.number
