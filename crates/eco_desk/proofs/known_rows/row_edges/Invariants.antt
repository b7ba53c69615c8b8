-- The rows so far have edges.
use Rattle.eco_desk.proofs.SweptLaws.{RowsAreFound}
use Rattle.eco_desk.proofs.known_rows.row_edges.Given as goal

abbrev pub invariant-loop-place : goal.invariant-loop-place
invariant-loop-place l = RowsAreFound l.netlist l.initial.swept l.initial.known.items l.swept l.known.items l.rows l.place l.edges.items
