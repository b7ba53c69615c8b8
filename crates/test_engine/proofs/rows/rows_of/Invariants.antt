-- The rows so far have the width.
use Rattle.std.proofs.Common.{◌≡◌, Bool, List, length}
use Rattle.std.specs.List.{All}
use Rattle.test_engine.proofs.rows.rows_of.Given as goal

abbrev pub invariant-loop-number : goal.invariant-loop-number
invariant-loop-number g l = All (λ (row : List Bool). length row ≡ l.width) l.rows.items
