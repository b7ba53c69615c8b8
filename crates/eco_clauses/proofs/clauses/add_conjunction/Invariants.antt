-- With the clauses that are left it is all of them.
use Rattle.std.proofs.Common.{◌≡◌, [], ◌∷◌, ◌++◌, map, drop}
use Rattle.eco_trace.specs.Clauses.{complement}
use Rattle.eco_clauses.specs.Listing.{with_lists}
use Rattle.eco_clauses.specs.Gates.{and_clauses}
use Rattle.eco_clauses.proofs.clauses.add_conjunction.Given as goal

abbrev pub invariant-loop-lit : goal.invariant-loop-lit
invariant-loop-lit l = record {
  left : with_lists l.cnf (map (λ i. complement l.out ∷ i ∷ []) (drop l.lit-index l.ins) ++ (l.out ∷ map complement l.ins) ∷ []) ≡ with_lists l.initial.cnf (and_clauses l.out l.ins);
  vars : l.cnf.vars ≡ l.initial.cnf.vars;
}
