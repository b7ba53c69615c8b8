use Rattle.std.proofs.Common.{◌≡◌, map, take}
use Rattle.eco_trace.specs.Clauses.{valuation_of, truth}
use Rattle.eco_pose.proofs.posed.bits_of.Given as goal

abbrev pub invariant-loop-lit : goal.invariant-loop-lit
invariant-loop-lit l = l.bits.items ≡ map (truth (valuation_of l.model)) (take l.lit-index l.lits)
