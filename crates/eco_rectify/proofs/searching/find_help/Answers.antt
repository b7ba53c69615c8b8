-- No bits are fixed.
use Rattle.std.proofs.Common.{◌≡◌, [], subst}
use Rattle.eco_pose.specs.declared.question.Question.TheVariants as questions
use Rattle.eco_pose.specs.Stuck.{IsAnswered}
use Rattle.eco_rectify.proofs.searching.find_help.Goals as goal

pub returns-clause-help : goal.returns-clause-help
returns-clause-help g c =
    let problem = c.args.engine.now.problem in
    let input = c.args.input.now in
    let none : c.of.result ≡ [] = cc in
    c.in_ok-help.ensures problem input (subst (λ fixed. IsAnswered problem (questions.Fix input fixed) c.in_ok-asked.asked) none c.in_ok-asked.ensures.answer)
