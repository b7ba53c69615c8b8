-- The question is one that can be asked, and the answer is to it.
use Rattle.std.proofs.Common.{rules}
use Rattle.std.specs.Option.{option_copied}
use Rattle.eco_pose.specs.declared.question.Question.TheVariants as questions
use Rattle.eco_pose.specs.Stuck.{IsAnswered, IsLeft}
use Rattle.eco_audit.proofs.OutputLaws.{goal_of_out, same_question, cares_for, can_be_read}
use Rattle.eco_audit.proofs.comparing.outputs_of.Goals as goal

pub ask_equal-requires-clause-goal : goal.ask_equal-requires-clause-goal
ask_equal-requires-clause-goal g c =
    goal_of_out c.args.problem.now c.args.out.now c.specification.result.now (option_copied c.care.result) c.implementation.ensures.problem c.requires.inputs c.requires.outputs c.specification.ensures.value c.care.ensures.value

pub read_outputs-requires : goal.read_outputs-requires
read_outputs-requires g c =
    let problem = c.args.problem.now in
    can_be_read problem (questions.Equal c.args.out.now c.specification.result.now (option_copied c.care.result)) c.in_ok-asked.asked (c.in_ok-asked.ensures.answer problem)

pub returns-in_err-asked-clause-unfinished : goal.returns-in_err-asked-clause-unfinished
returns-in_err-asked-clause-unfinished g c =
    let problem = c.args.problem.now in
    let left =
    same_question (λ q. IsLeft problem c.args.limit q c.in_err-asked.field-0.0) c.args.out.now c.specification.result.now problem.goal.spec (option_copied c.care.result) problem.goal.care c.specification.ensures.value
    c.care.ensures.value (c.in_err-asked.ensures.unfinished problem) in
    search rules

pub returns-clause-outputs : goal.returns-clause-outputs
returns-clause-outputs g c =
    let problem = c.args.problem.now in
    let out = c.args.out.now in
    c.in_ok-read_outputs.ensures problem out c.nets.ensures.checked c.requires.closed (cares_for problem out c.implementation.ensures.problem c.requires.inputs)
    (same_question (λ q. IsAnswered problem q c.in_ok-asked.asked) out c.specification.result.now problem.goal.spec (option_copied c.care.result) problem.goal.care
    c.specification.ensures.value c.care.ensures.value (c.in_ok-asked.ensures.answer problem))
