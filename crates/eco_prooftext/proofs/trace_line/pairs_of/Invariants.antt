use Rattle.std.proofs.Common.{◌≡◌, ◌++◌, length}
use Rattle.eco_prooftext.specs.TraceFile.{pair_numbers}
use Rattle.eco_prooftext.proofs.trace_line.pairs_of.Given as goal

abbrev pub invariant-loop-rest : goal.invariant-loop-rest
invariant-loop-rest l = pair_numbers l.pairs.items ++ l.rest ≡ l.numbers

abbrev pub decreases-loop-rest : goal.decreases-loop-rest
decreases-loop-rest l = length l.rest
