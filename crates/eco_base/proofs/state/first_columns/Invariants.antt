-- The columns so far.
use Rattle.eco_base.specs.Fronts.{AreFirst}
use Rattle.eco_base.proofs.state.first_columns.Given as goal

abbrev pub invariant-loop-column : goal.invariant-loop-column
invariant-loop-column l = AreFirst l.column l.columns.items
