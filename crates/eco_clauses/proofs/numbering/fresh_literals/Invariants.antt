-- With the literals that are left it is all of them.
use Rattle.std.proofs.Common.{◌≡◌, ◌+◌, ◌++◌, drop}
use Rattle.eco_clauses.specs.Numbering.{new_literals}
use Rattle.eco_clauses.proofs.numbering.fresh_literals.Given as goal

abbrev pub invariant-loop-net : goal.invariant-loop-net
invariant-loop-net l = record {
  left : l.lits.items ++ new_literals l.cnf.vars (drop l._net-index l.nets) ≡ new_literals l.initial.cnf.vars l.nets;
  more : l.cnf.vars ≡ l.initial.cnf.vars + l._net-index;
  same : l.cnf.clauses ≡ l.initial.cnf.clauses;
}
