-- The clauses so far are covered.
use Rattle.std.proofs.Common.{ℕ, ◌<◌}
use Rattle.eco_itp.specs.Parts.{IsClauseCovered}
use Rattle.eco_itp.proofs.cover.covers.Given as goal

abbrev pub invariant-loop-number : goal.invariant-loop-number
invariant-loop-number l = (k : ℕ) → k < l.number → IsClauseCovered l.parts k
