-- The signals can be asked about at the stage.
use Rattle.std.proofs.Common.{sym, subst}
use Rattle.eco_base.specs.Targets.{AreReadableAt, TargetValue}
use Rattle.eco_base.proofs.target.Target.conflict.Goals as goal

pub conflict_at-requires-clause-readable : goal.conflict_at-requires-clause-readable
conflict_at-requires-clause-readable g c = subst (λ (t : TargetValue). AreReadableAt t c.args.base.now) (sym c.self.view_is) c.requires.readable
