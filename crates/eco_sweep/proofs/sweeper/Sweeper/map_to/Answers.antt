-- The map is swept.
use Rattle.std.proofs.Common.{sym, subst}
use Rattle.eco_aig.specs.Swept.{IsSwept}
use Rattle.eco_sweep.specs.Sweepers.{SweeperValue}
use Rattle.eco_sweep.proofs.sweeper.Sweeper.map_to.Goals as goal

pub put-requires-clause-swept : goal.put-requires-clause-swept
put-requires-clause-swept c = subst (λ (value : SweeperValue). IsSwept c.args.aig.now value.map) (sym c.self.view_is) c.requires.swept
