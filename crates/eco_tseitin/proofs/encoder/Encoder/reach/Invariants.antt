use Rattle.std.proofs.Common.{◌+◌, ◌-◌, length}
use Rattle.eco_tseitin.proofs.Progress.{IsProgress}
use Rattle.eco_tseitin.proofs.encoder.Encoder.reach.Given as goal

abbrev pub invariant-loop-place : goal.invariant-loop-place
invariant-loop-place l = IsProgress l.aig l.fn.self l.self l.fn.edge l.literal l.place

abbrev pub decreases-loop-place : goal.decreases-loop-place
decreases-loop-place l = length l.fn.self.nodes + length l.aig - l.place
