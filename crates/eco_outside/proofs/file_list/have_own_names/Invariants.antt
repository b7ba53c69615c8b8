use Rattle.std.proofs.Common.{◌≡◌, length}
use Rattle.eco_outside.specs.Kept.{have_own_names}
use Rattle.eco_outside.proofs.file_list.have_own_names.Given as goal

abbrev pub invariant-loop-rest : goal.invariant-loop-rest
invariant-loop-rest l = have_own_names l.rest ≡ have_own_names l.files

abbrev pub decreases-loop-rest : goal.decreases-loop-rest
decreases-loop-rest l = length l.rest
