-- The rows so far are rows of the graph.
use Rattle.std.proofs.Common.{All}
use Rattle.eco_merge.specs.Rows.{IsRow}
use Rattle.eco_merge.proofs.findings.Findings.new.Given as goal

abbrev pub invariant-loop : goal.invariant-loop
invariant-loop l = All (IsRow l.aig) l.rows.items
