-- The rows so far.
use Rattle.std.proofs.Common.{take}
use Rattle.std.specs.List.{AllZip}
use Rattle.eco_base.specs.Fronts.{IsColumnRow}
use Rattle.eco_base.proofs.state.rows_of.Given as goal

abbrev pub invariant-loop-input : goal.invariant-loop-input
invariant-loop-input l = AllZip (IsColumnRow l.stage) (take l.input-index l.inputs) l.rows.items
