use Rattle.std.proofs.Common.{◌≡◌, map, take}
use Rattle.eco_trace.specs.Rows.{learnt_of}
use Rattle.eco_trace.specs.KeptRows.{kept_learnt_of}
use Rattle.eco_trace.proofs.trace.kept_rows.Given as goal

abbrev pub invariant-loop-row : goal.invariant-loop-row
invariant-loop-row l = map kept_learnt_of l.kept.items ≡ map learnt_of (take l.row-index l.rows)
