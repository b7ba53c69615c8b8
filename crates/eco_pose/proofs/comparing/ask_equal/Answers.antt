-- The clauses ask the question, and what the search makes of them is of it.
use Rattle.std.proofs.Common.{subst}
use Rattle.std.specs.Option.{option_copied}
use Rattle.eco_pose.specs.declared.question.Question.TheVariants as questions
use Rattle.eco_pose.specs.Asking.{IsSearched}
use Rattle.eco_pose.proofs.AskLaws.{answered, left_open}
use Rattle.eco_pose.proofs.comparing.ask_equal.Goals as goal

pub returns-in-Answered-clause-answer : goal.returns-in-Answered-clause-answer
returns-in-Answered-clause-answer g c problem =
    answered problem (questions.Equal c.args.left.now c.args.right.now (option_copied c.args.care)) c.in_ok-posed.posed c.args.limit c.in-Answered.asked (c.in_ok-posed.ensures problem)
    (subst (IsSearched c.in_ok-posed.posed c.args.limit) c.in-Answered.is c.in_ok-asked.ensures)

pub returns-in-GivenUp-clause-unfinished : goal.returns-in-GivenUp-clause-unfinished
returns-in-GivenUp-clause-unfinished g c problem =
    let (same, legal, spent) = subst (IsSearched c.in_ok-posed.posed c.args.limit) c.in-GivenUp.is c.in_ok-asked.ensures in
    left_open problem (questions.Equal c.args.left.now c.args.right.now (option_copied c.args.care)) c.in_ok-posed.posed c.args.limit c.in-GivenUp.abandoned c.left_equal.result (c.requires.goal, c.requires.closed) (c.in_ok-posed.ensures problem) same legal spent c.left_equal.ensures
