-- The literals so far.
use Rattle.std.proofs.Common.{◌≡◌, ℕ, List, map, take}
use Rattle.eco_netlist.specs.Netlists.{names_at}
use Rattle.eco_trace.specs.declared.clause.Lit.{Lit}
use Rattle.eco_clauses.proofs.numbering.literals_at.Given as goal

abbrev pub invariant-loop-net : goal.invariant-loop-net
invariant-loop-net l = (list : List (List ℕ)) (literal : List ℕ → Lit) → l.lits ≡ map literal list → l.found.items ≡ map literal (names_at list (take l.net-index l.nets))
