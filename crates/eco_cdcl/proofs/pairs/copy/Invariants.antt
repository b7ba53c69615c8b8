-- The literals so far are copied.
use Rattle.std.proofs.Common.{◌≡◌, ◌++◌, take}
use Rattle.eco_cdcl.proofs.pairs.copy.Given as goal

abbrev pub invariant-loop-lit : goal.invariant-loop-lit
invariant-loop-lit l = l.codes.items ≡ l.fn.codes.items ++ take l.lit-index l.clause
