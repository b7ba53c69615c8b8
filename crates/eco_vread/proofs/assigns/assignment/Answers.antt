use Rattle.std.proofs.Common.{refl}
use Rattle.eco_vread.specs.Parse.{assignment_at}
use Rattle.eco_vread.proofs.assigns.assignment.Goals as goal

pub returns : goal.returns
unfolding assignment_at
returns c = rw (c.in_ok-name.ensures, c.in_ok-behind.ensures, c.in_ok-value.ensures.given) refl
