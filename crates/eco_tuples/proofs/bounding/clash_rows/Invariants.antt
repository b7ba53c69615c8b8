-- The rows so far.
use Rattle.std.specs.List.{All}
use Rattle.eco_meaning.specs.Circuit.{names}
use Rattle.eco_netlist.specs.Netlists.{names_at}
use Rattle.eco_clash.specs.Costs.{IsClashRow}
use Rattle.eco_tuples.proofs.bounding.clash_rows.Given as goal

abbrev pub invariant-loop-tuple : goal.invariant-loop-tuple
invariant-loop-tuple g l = All (IsClashRow l.problem.implementation l.problem.goal (names_at (names l.problem.implementation) l.signals)) l.rows.items
