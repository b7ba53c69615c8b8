-- The netlists have the same ports, and the other one has no target.
use Rattle.std.proofs.lemmas.Result.{IfOk-weaker}
use Rattle.std.specs.Option.{option_copied}
use Rattle.eco_query.specs.Problem.{ProblemValue}
use Rattle.eco_pose.specs.declared.asking.Asked.{Asked}
use Rattle.eco_pose.specs.declared.question.Question.TheVariants.{Equal}
use Rattle.eco_pose.specs.Stuck.{IsAnswered}
use Rattle.test_engine.proofs.FrontLaws.{equal_askable}
use Rattle.test_engine.proofs.comparing.found_by_search.Goals as goal

pub ask_equal-requires-clause-goal : goal.ask_equal-requires-clause-goal
ask_equal-requires-clause-goal g c =
    (equal_askable c.args.problem.now c.specification-left.result.now c.args.right.now (option_copied c.care.result) c.specification-left.ensures.problem c.specification-left.ensures.value
    c.care.ensures.value c.nets.ensures.checked c.requires.closed c.requires.ports).0

pub ask_equal-requires-clause-closed : goal.ask_equal-requires-clause-closed
ask_equal-requires-clause-closed g c =
    (equal_askable c.args.problem.now c.specification-left.result.now c.args.right.now (option_copied c.care.result) c.specification-left.ensures.problem c.specification-left.ensures.value
    c.care.ensures.value c.nets.ensures.checked c.requires.closed c.requires.ports).1

pub reading-requires : goal.reading-requires
reading-requires g c =
    let question = Equal c.specification-left.result.now c.args.right.now (option_copied c.care.result) in (
      c.args.problem.now,
      question,
      IfOk-weaker c.ask_equal.result (λ (asked : Asked). (problem : ProblemValue) → IsAnswered problem question asked)
          (IsAnswered c.args.problem.now question) (λ asked all. all c.args.problem.now) c.ask_equal.ensures.answer,
    )
