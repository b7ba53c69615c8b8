-- The full word has the bit 1 in each lane.
use Rattle.std.proofs.Common.{sym, ◌∙◌}
use Rattle.eco_gates.proofs.WordLemmas.{set-all}
use Rattle.eco_lanes.proofs.lanes.all_lanes.Goals as goal

pub returns-then-bit : goal.returns-then-bit
returns-then-bit c = λ place lt. set-all place lt ∙ sym c.if-bit.true
