-- One net can be cut.
use Rattle.std.proofs.Common.{[], ◌∷◌}
use Rattle.eco_locate.proofs.NetLemmas.{one_can_be_cut}
use Rattle.eco_locate.proofs.judging.judge_one.Goals as goal
