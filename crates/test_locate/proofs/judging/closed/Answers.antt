use Rattle.test_locate.proofs.judging.closed.Goals as goal

pub returns : goal.returns
returns g c = c.is_closed.ensures.0 cc
