-- The rows so far have the width, and no two are the same.
use Rattle.std.proofs.Common.{◌≡◌, Bool, List, length}
use Rattle.std.specs.List.{All}
use Rattle.eco_pose.specs.Questions.{AreDistinct}
use Rattle.test_engine.proofs.rows.rows_once.Given as goal

abbrev pub invariant-loop-number : goal.invariant-loop-number
invariant-loop-number g l = All (λ (row : List Bool). length row ≡ l.width) l.rows.items × AreDistinct l.rows.items
