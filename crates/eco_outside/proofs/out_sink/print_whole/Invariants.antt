use Rattle.std.proofs.Common.{length}
use Rattle.eco_outside.proofs.out_sink.print_whole.Given as goal

abbrev pub decreases-writes : goal.decreases-writes
decreases-writes g l = length l.rest
