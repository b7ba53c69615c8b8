-- With the gates that are left it is all of them.
use Rattle.std.proofs.Common.{◌≡◌, ◌≤◌, ℕ, List, map, drop}
use Rattle.eco_netlist.specs.Netlists.{named_gate}
use Rattle.eco_trace.specs.declared.clause.Lit.{Lit}
use Rattle.eco_clauses.specs.Gates.{with_gates}
use Rattle.eco_clauses.proofs.gates.add_gates.Given as goal

abbrev pub invariant-loop-gate : goal.invariant-loop-gate
invariant-loop-gate l = record {
  left : (list : List (List ℕ)) (literal : List ℕ → Lit) → l.lits ≡ map literal list → with_gates literal l.cnf (map (named_gate list) (drop l.gate-index l.gates)) ≡ with_gates literal l.initial.cnf (map (named_gate list) l.gates);
  more : l.initial.cnf.vars ≤ l.cnf.vars;
}
