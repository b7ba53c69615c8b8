-- The functions so far have their edges.
use Rattle.eco_guess.proofs.Added.{AreMade}
use Rattle.eco_guess.proofs.making.made.Given as goal

abbrev pub invariant-loop-form : goal.invariant-loop-form
invariant-loop-form l = AreMade l.initial.graph l.graph l.form-index l.edges.items
