-- The rows are those that were asked about.
use Rattle.eco_rectify.proofs.searching.find_missed.Goals as goal

pub returns-clause-missed : goal.returns-clause-missed
returns-clause-missed g c = c.in_ok-missed.ensures c.args.engine.now.problem c.args.rows.now c.requires.rows c.in_ok-asked.ensures.answer
