use Rattle.test_engine.proofs.problems.closed.Goals as goal

pub returns-clause-closed : goal.returns-clause-closed
returns-clause-closed g c = c.is_closed.ensures.0 cc
