-- The rows so far.
use Rattle.std.proofs.Common.{take}
use Rattle.std.specs.List.{AllZip}
use Rattle.eco_base.specs.Walks.{IsRowOf}
use Rattle.eco_base.proofs.walking.rows_at.Given as goal

abbrev pub invariant-loop-input : goal.invariant-loop-input
invariant-loop-input l = AllZip (IsRowOf l.n l.nets) (take l.input-index l.inputs) l.rows.items
