-- What is known of the target is known of its stage.
use Rattle.std.proofs.Common.{sym, subst}
use Rattle.eco_base.specs.Targets.{TargetValue}
use Rattle.eco_base.specs.Walks.{AreKnownFor}
use Rattle.eco_base.proofs.target.Target.walk.Goals as goal

pub walk_on-requires-clause-known : goal.walk_on-requires-clause-known
walk_on-requires-clause-known g c = subst (λ (t : TargetValue). AreKnownFor t.problem t.number t.patches c.args.known.now) (sym c.self.view_is) c.requires.known

pub returns-clause-known : goal.returns-clause-known
returns-clause-known g c = subst (λ (t : TargetValue). AreKnownFor t.problem t.number t.patches c.walk_on.new.known) c.self.view_is c.walk_on.ensures.known
