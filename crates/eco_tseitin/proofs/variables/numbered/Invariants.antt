use Rattle.eco_tseitin.specs.Joined.{AreNumbered}
use Rattle.eco_tseitin.proofs.variables.numbered.Given as goal

abbrev pub invariant-loop-place : goal.invariant-loop-place
invariant-loop-place l = AreNumbered l.after l.place l.vars.items
