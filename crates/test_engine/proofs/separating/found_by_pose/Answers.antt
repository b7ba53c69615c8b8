-- The front, the base and the rests are those of a question.
use Rattle.test_engine.proofs.FrontLaws.{pair_posable}
use Rattle.test_engine.proofs.separating.found_by_pose.Goals as goal

pub found_plainly-requires : goal.found_plainly-requires
found_plainly-requires g c =
    let front = c.args.front.now in
    pair_posable c.args.problem.now front.target front.patch c.args.base.now c.rests_of-rests.result.items c.question-question.result c.question-question.ensures
    c.requires.front c.requires.base c.rests_of-rests.ensures
