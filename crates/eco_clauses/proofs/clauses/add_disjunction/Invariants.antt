-- With the clauses that are left it is all of them.
use Rattle.std.proofs.Common.{◌≡◌, [], ◌∷◌, ◌++◌, map, drop}
use Rattle.eco_trace.specs.Clauses.{complement}
use Rattle.eco_clauses.specs.Listing.{with_lists}
use Rattle.eco_clauses.specs.Gates.{or_clauses}
use Rattle.eco_clauses.proofs.clauses.add_disjunction.Given as goal

abbrev pub invariant-loop-lit : goal.invariant-loop-lit
invariant-loop-lit l = record {
  left : with_lists l.cnf (map (λ i. l.out ∷ complement i ∷ []) (drop l.lit-index l.ins) ++ (complement l.out ∷ l.ins) ∷ []) ≡ with_lists l.initial.cnf (or_clauses l.out l.ins);
  vars : l.cnf.vars ≡ l.initial.cnf.vars;
}
