use Rattle.std.proofs.Common.{◌≡◌, ◌∷◌, map, take}
use Rattle.eco_pose.proofs.separating.with_first.Given as goal

abbrev pub invariant-loop-row : goal.invariant-loop-row
invariant-loop-row l = l.rows.items ≡ map (λ row. l.bit ∷ row) (take l.row-index l.rest)
