-- The account is a bound.
use Rattle.eco_bound.proofs.RaisingLaws.{lower_bound}
use Rattle.eco_bound.proofs.bounding.bound_at.Goals as goal

pub returns-in-Ok-clause-bound : goal.returns-in-Ok-clause-bound
returns-in-Ok-clause-bound g c p takes =
    let t = c.args.target.now in
    lower_bound t.problem t.patches c.requires.first.beginning c.settle.new.account c.in-Ok.ensures.account c.in-Ok.ensures.full c.requires.needed.target c.requires.needed.single p takes
