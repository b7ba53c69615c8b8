-- The paid signals of a stage are readable.
use Rattle.std.proofs.Common.{subst}
use Rattle.eco_base.specs.Targets.{AreReadableAt, TargetValue}
use Rattle.eco_base.proofs.PaidLaws.{paid_readable}
use Rattle.eco_base.proofs.target.Target.paid.Goals as goal

pub returns-clause-readable : goal.returns-clause-readable
returns-clause-readable g c = subst (λ (t : TargetValue). AreReadableAt t t.paid) c.self.view_is (paid_readable c.self.inside.stage c.self.invariant.stage_is)
