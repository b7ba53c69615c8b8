-- What there is after a walk is no base.
use Rattle.eco_least.proofs.improving.settled.Goals as goal

pub returns-else-cost_of-below : goal.returns-else-cost_of-below
returns-else-cost_of-below g c = c.after.ensures c.args.target.now
