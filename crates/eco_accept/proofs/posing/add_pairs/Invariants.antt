-- The pairs so far are equal.
use Rattle.std.proofs.Common.{take}
use Rattle.eco_trace.specs.Adding.{Extends}
use Rattle.eco_accept.specs.Posing.{AreEqual, HaveAlso}
use Rattle.eco_accept.proofs.posing.add_pairs.Given as goal

abbrev pub invariant-loop-pair : goal.invariant-loop-pair
invariant-loop-pair l = Extends l.fn.cnf l.cnf × HaveAlso l.fn.cnf l.cnf (AreEqual l.by (take l.pair-index l.pairs))
