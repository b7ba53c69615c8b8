-- With the literals that are left it is all of them.
use Rattle.std.proofs.Common.{◌≡◌, ◌+◌, ◌++◌, drop}
use Rattle.eco_equality.specs.Numbers.{filled_literals, open_places}
use Rattle.eco_equality.proofs.numbering.fill_literals.Given as goal

abbrev pub invariant-loop-lit : goal.invariant-loop-lit
invariant-loop-lit l = record {
  left : l.lits.items ++ filled_literals l.cnf.vars (drop l.lit-index l.given) ≡ filled_literals l.initial.cnf.vars l.given;
  more : l.cnf.vars + open_places (drop l.lit-index l.given) ≡ l.initial.cnf.vars + open_places l.given;
  same : l.cnf.clauses ≡ l.initial.cnf.clauses;
}
