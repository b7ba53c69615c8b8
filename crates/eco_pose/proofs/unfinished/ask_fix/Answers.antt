-- The clauses ask the question, and what the search makes of them is of it.
use Rattle.std.proofs.Common.{subst}
use Rattle.eco_pose.specs.declared.question.Question.TheVariants as questions
use Rattle.eco_pose.specs.Asking.{IsSearched}
use Rattle.eco_pose.proofs.AskLaws.{answered, left_open}
use Rattle.eco_pose.proofs.unfinished.ask_fix.Goals as goal

pub returns-in-Answered-clause-answer : goal.returns-in-Answered-clause-answer
returns-in-Answered-clause-answer g c =
    answered c.args.problem.now (questions.Fix c.args.input.now c.args.fixed.now) c.in_ok-posed.posed c.args.limit c.in-Answered.asked c.in_ok-posed.ensures
    (subst (IsSearched c.in_ok-posed.posed c.args.limit) c.in-Answered.is c.in_ok-asked.ensures)

pub returns-in-GivenUp-clause-unfinished : goal.returns-in-GivenUp-clause-unfinished
returns-in-GivenUp-clause-unfinished g c =
    let (same, legal, spent) = subst (IsSearched c.in_ok-posed.posed c.args.limit) c.in-GivenUp.is c.in_ok-asked.ensures in
    left_open c.args.problem.now (questions.Fix c.args.input.now c.args.fixed.now) c.in_ok-posed.posed c.args.limit c.in-GivenUp.left c.left_fix.result (c.requires.input, c.requires.fixed) c.in_ok-posed.ensures same legal spent c.left_fix.ensures
