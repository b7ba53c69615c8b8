-- The first literals that are wanted stay.
use Rattle.std.proofs.Common.{◌≡◌, length, take}
use Rattle.eco_learn.proofs.taken.Taken.truncate.Given as goal

abbrev pub invariant-loop-self : goal.invariant-loop-self
invariant-loop-self l = (l.self.vars ≡ l.initial.self.vars) × (take l.len l.self.lits ≡ take l.len l.initial.self.lits)

abbrev pub decreases-loop-self : goal.decreases-loop-self
decreases-loop-self l = length l.self.lits
