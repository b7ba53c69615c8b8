-- The nodes from the last one down so far are treated.
use Rattle.std.proofs.Common.{◌-◌}
use Rattle.eco_trace.proofs.CoreLaws.{IsReaching}
use Rattle.eco_trace.proofs.reach.reached.Given as goal

abbrev pub invariant-loop-back : goal.invariant-loop-back
invariant-loop-back l = IsReaching l.trace l.marks.items (l.nodes - l.back)
