-- The question is one that can be asked, and the answer is to it.
use Rattle.std.proofs.Common.{[], subst}
use Rattle.std.specs.Option.{option_copied}
use Rattle.std.proofs.lemmas.Result.{err_from_is_err_and}
use Rattle.eco_meaning.specs.Circuit.{Circuit, IsTarget}
use Rattle.eco_query.specs.Problem.{ProblemValue}
use Rattle.eco_pose.specs.declared.question.Question.TheVariants as questions
use Rattle.eco_pose.specs.declared.asking.Asked.TheVariants as asked
use Rattle.eco_pose.specs.Stuck.{CanBeRead, IsAnswered, IsLeft}
use Rattle.eco_locate.proofs.ComparingLemmas.{goal_of_parts, question_of_parts}
use Rattle.eco_locate.proofs.comparing.first_failing.Goals as goal

pub ask_equal-requires-clause-goal : goal.ask_equal-requires-clause-goal
ask_equal-requires-clause-goal g c =
    goal_of_parts c.args.change.now.old c.old.result.now c.specification.result.now c.args.change.now.goal (option_copied c.care.result) c.old.ensures.change c.old.ensures.value c.specification.ensures.value c.care.ensures.value

pub ask_equal-requires-clause-closed : goal.ask_equal-requires-clause-closed
ask_equal-requires-clause-closed g c = λ name is. c.old.ensures.change.closed name (subst (λ (n : Circuit). IsTarget n name) c.old.ensures.value is)

pub returns-in_err-asked-clause-unfinished : goal.returns-in_err-asked-clause-unfinished
returns-in_err-asked-clause-unfinished g c =
    let f = c.args.change.now.old in
    let wanted = c.args.change.now.goal in
    let p = err_from_is_err_and c.from_residual.result c.from_residual.ensures.1 in
    rw (p.1, p.2)
    (λ problem.
    question_of_parts (λ q. IsLeft problem c.args.limit q c.in_err-asked.field-0.0) f c.old.result.now c.specification.result.now wanted (option_copied c.care.result) c.old.ensures.value c.specification.ensures.value c.care.ensures.value
    (c.in_err-asked.ensures.unfinished problem))

pub input_of-found-requires : goal.input_of-found-requires
input_of-found-requires g c =
    let problem : ProblemValue = record { implementation = c.args.change.now.old; goal = c.args.change.now.goal; weights = []; input_weight = 0 } in
    let question = questions.Equal c.old.result.now c.specification.result.now (option_copied c.care.result) in
    elim c.in_ok-asked.asked as (λ answer. IsAnswered problem question answer → CanBeRead answer) [
      | asked.Never posed trace ↦ λ is. tt
      | asked.Found posed model ↦ λ is. is.1.complete
    ] (c.in_ok-asked.ensures.answer problem)

pub failing_of-requires : goal.failing_of-requires
failing_of-requires g c =
    let f = c.args.change.now.old in
    let wanted = c.args.change.now.goal in
    let problem : ProblemValue = record { implementation = f; goal = wanted; weights = []; input_weight = 0 } in
    c.in_ok-found.ensures problem f wanted
    (question_of_parts (λ q. IsAnswered problem q c.in_ok-asked.asked) f c.old.result.now c.specification.result.now wanted (option_copied c.care.result) c.old.ensures.value c.specification.ensures.value c.care.ensures.value (c.in_ok-asked.ensures.answer problem))
