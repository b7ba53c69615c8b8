-- The rows so far have edges.
use Rattle.eco_pose.proofs.RowLaws.{RowsHaveEdges}
use Rattle.eco_pose.proofs.board.Board.row_edges.Given as goal

abbrev pub invariant-loop-row : goal.invariant-loop-row
invariant-loop-row l = RowsHaveEdges l.netlist l.initial.self l.self l.rows l.row-index l.edges.items
