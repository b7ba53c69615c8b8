-- With the pairs that are left it is all of them.
use Rattle.std.proofs.Common.{◌≡◌, ◌≤◌, ◌++◌, drop}
use Rattle.eco_equality.specs.Equality.{with_differences}
use Rattle.eco_clauses.specs.Numbering.{new_literals}
use Rattle.eco_equality.proofs.differences.fresh_differences.Given as goal

abbrev pub invariant-loop-place : goal.invariant-loop-place
invariant-loop-place l = record {
  left : with_differences l.cnf (drop l.place l.ones) (drop l.place l.others) ≡ with_differences l.initial.cnf l.ones l.others;
  lits : l.lits.items ++ new_literals l.cnf.vars (drop l.place l.ones) ≡ new_literals l.initial.cnf.vars l.ones;
  more : l.initial.cnf.vars ≤ l.cnf.vars;
}
