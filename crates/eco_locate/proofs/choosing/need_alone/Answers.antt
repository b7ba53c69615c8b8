-- Where no input is wrong, the net isn't needed; and a question that was given up is whether any is.
use Rattle.std.proofs.Common.{[], subst, sym}
use Rattle.eco_query.specs.Problem.{ProblemValue}
use Rattle.eco_pose.specs.declared.question.Question.TheVariants as questions
use Rattle.eco_pose.specs.Stuck.{IsLeft}
use Rattle.eco_locate.specs.Chosen.{IsComparedLess}
use Rattle.eco_locate.specs.Comparing.{TellsFirst}
use Rattle.eco_locate.proofs.ChosenLemmas.{none_needed}
use Rattle.eco_locate.proofs.choosing.need_alone.Goals as goal

pub returns-in-Ok-None : goal.returns-in-Ok-None
returns-in-Ok-None g c =
    let f = c.args.change.now.old in
    let asked = c.args.change.now.goal in
    none_needed f asked (subst (TellsFirst f asked) c.in-Ok-None.field-0-is c.in-Ok-None.ensures.failing)

pub returns-in-Err-GivenUp : goal.returns-in-Err-GivenUp
returns-in-Err-GivenUp g c =
    let f = c.args.change.now.old in
    let asked = c.args.change.now.goal in
    let left = λ (problem : ProblemValue). subst (IsLeft problem c.args.limit (questions.Equal f asked.spec asked.care)) c.in-Err-GivenUp.field-0-is (c.in-Err-GivenUp.ensures.unfinished problem) in
    let unweighted : ProblemValue = record { implementation = f; goal = asked; weights = []; input_weight = 0 } in
    subst (IsComparedLess f asked c.args.limit) (sym c.into_inner.ensures) (record { question = (left unweighted).0; given_up = λ problem. (left problem).1 })
