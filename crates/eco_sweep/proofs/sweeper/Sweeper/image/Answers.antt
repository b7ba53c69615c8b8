-- What stands for nodes has their values.
use Rattle.std.proofs.Common.{sym, subst}
use Rattle.eco_aig.specs.Swept.{IsSwept}
use Rattle.eco_sweep.specs.Sweepers.{SweeperValue}
use Rattle.eco_sweep.proofs.sweeper.Sweeper.image.Goals as goal

pub returns : goal.returns
returns c = λ nodes edge swept.
    c.image_of.ensures.value nodes edge (subst (λ (value : SweeperValue). IsSwept nodes value.map) (sym c.self.view_is) swept)
