use Rattle.std.proofs.Common.{◌≡◌, ℕ, ◌<◌, false}
use Rattle.std.specs.Prelude.{◌==◌}
use Rattle.eco_gen.specs.Drawn.{cut_gate}
use Rattle.eco_gen.proofs.cutting.target_at.Given as goal

abbrev pub invariant-loop-target : goal.invariant-loop-target
invariant-loop-target l = (k : ℕ) → k < l.target → (cut_gate l.size l.targets k == l.gate) ≡ false
