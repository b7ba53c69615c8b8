use Rattle.std.proofs.Common.{codes, subst}
use Rattle.std.proofs.lemmas.Result.{IfOk-weaker}
use Rattle.eco_locate.specs.declared.answer.Answer.TheVariants as answers
use Rattle.eco_locate.specs.Judged.{TellsAnswer}
use Rattle.eco_pose.specs.declared.question.Question.TheVariants as questions
use Rattle.eco_pose.specs.Stuck.{IsLeft}
use Rattle.eco_query.specs.Problem.{ProblemValue}
use Rattle.eco_words.specs.CommandLine.{locate_options_of}
use Rattle.eco_cli.specs.Answers.{IsTextAnswer}
use Rattle.eco_cli.specs.Spent.{IsUnfinishedAnswer}
use Rattle.eco_cli.proofs.LocateStages.{equal_prepared, uncompared_prepared}
use Rattle.eco_cli.proofs.locate.judged.Goals as goal

pub returns-in-Ok-Equal : goal.returns-in-Ok-Equal
returns-in-Ok-Equal c = λ before after passed.
    let h : TellsAnswer c.args.change.now.old c.args.change.now.goal c.from-limit.result answers.Equal = rw c.in-Ok-Equal.field-0-is at c.in-Ok-Equal.ensures.answer in
    IfOk-weaker c.equal.result (IsTextAnswer 0 (codes "equal\n")) _
    (equal_prepared (locate_options_of c.args.command.now) c.args.change.now before after passed h) c.equal.ensures

pub listed-requires : goal.listed-requires
listed-requires c =
    let h : TellsAnswer c.args.change.now.old c.args.change.now.goal c.from-limit.result (answers.Located c.in-Ok-Located.located) = rw c.in-Ok-Located.field-0-is at c.in-Ok-Located.ensures.answer in
    record {
      judged = subst (λ limit. TellsAnswer c.args.change.now.old c.args.change.now.goal limit (answers.Located c.in-Ok-Located.located)) c.from-limit.ensures h;
      budget = c.requires.budget;
    }

pub returns-in-Err : goal.returns-in-Err
returns-in-Err c = λ before after passed.
    let goal = c.args.change.now.goal in
    IfOk-weaker c.unfinished_answer.result (IsUnfinishedAnswer (locate_options_of c.args.command.now).budget c.in-Err.unfinished) _
    (uncompared_prepared (locate_options_of c.args.command.now) c.args.change.now c.in-Err.unfinished before after
    (subst (λ limit. (problem : ProblemValue) → IsLeft problem limit (questions.Equal c.args.change.now.old goal.spec goal.care) c.in-Err.unfinished) c.from-limit.ensures c.in-Err.ensures.unfinished) passed) c.unfinished_answer.ensures
