use Rattle.std.proofs.Common.{List, ℕ}
use Rattle.std.specs.List.{IsDistinct}
use Rattle.std.specs.Str.{bytes_eq}
use Rattle.eco_netlist.specs.declared.tally.Tally.{Tally}
use Rattle.eco_netlist.specs.Netlists.{names_at}
use Rattle.eco_netlist.specs.Tallies.{is_free}
use Rattle.eco_netlist.specs.Targets.{HasTargets, AreCounts}
use Rattle.eco_netlist.proofs.target.target_map.Given as goal

abbrev pub invariant-loop-number : goal.invariant-loop-number
invariant-loop-number l =
    (counts : List ℕ → Tally) → IsDistinct bytes_eq (names_at l.names l.nets) → AreCounts l.names l.tallies counts →
    HasTargets (λ name. is_free l.rule name (counts name)) (names_at l.names l.nets) l.number l.targets
