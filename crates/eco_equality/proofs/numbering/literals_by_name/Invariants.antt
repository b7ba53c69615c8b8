-- The literals so far.
use Rattle.std.proofs.Common.{◌≡◌, ℕ, List, map, take}
use Rattle.eco_meaning.specs.Circuit.{names}
use Rattle.eco_netlist.specs.Netlists.{names_at}
use Rattle.eco_trace.specs.declared.clause.Lit.{Lit}
use Rattle.eco_equality.proofs.numbering.literals_by_name.Given as goal

abbrev pub invariant-loop-net : goal.invariant-loop-net
invariant-loop-net l = (literal : List ℕ → Lit) → l.lits ≡ map literal (names l.other) → l.found.items ≡ map literal (names_at (names l.netlist) (take l.net-index l.nets))
