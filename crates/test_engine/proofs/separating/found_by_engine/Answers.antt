-- The front is kept, and the base and the rests are those of a question of it.
use Rattle.test_engine.proofs.FrontLaws.{pair_askable, pair_of_problem}
use Rattle.test_engine.proofs.separating.found_by_engine.Goals as goal

pub ask_separate-asked-requires-clause-askable : goal.ask_separate-asked-requires-clause-askable
ask_separate-asked-requires-clause-askable g c =
    let front = c.args.front.now in
    pair_askable c.args.engine.now.problem front.target front.patch c.args.base.now c.args.rests.now c.requires.front.front c.requires.base c.requires.rests

pub ask_separate-asked-requires-clause-of_problem : goal.ask_separate-asked-requires-clause-of_problem
ask_separate-asked-requires-clause-of_problem g c =
    let front = c.args.front.now in
    pair_of_problem c.args.engine.now.problem front.target front.patch c.args.base.now c.args.rests.now c.requires.front c.requires.base c.requires.distinct
