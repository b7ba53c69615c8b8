-- The question is one of the problem, and what its answer says.
use Rattle.std.proofs.Common.{sym, subst}
use Rattle.eco_query.specs.Problem.{ProblemValue}
use Rattle.eco_pose.specs.Questions.{IsAskable, IsOfProblem}
use Rattle.eco_pose.specs.Stuck.{IsAnswered, NoneCompared}
use Rattle.eco_pose.specs.declared.question.Question.TheVariants.{Separate}
use Rattle.eco_base.proofs.AskLaws.{askable, is_of_problem, no_model, refuted_here, answered_pair, separated_lengths}
use Rattle.eco_base.specs.Asking.{names_here}
use Rattle.eco_base.proofs.judging.question.Goals as goal

pub ask_separate-requires-clause-askable : goal.ask_separate-requires-clause-askable
ask_separate-requires-clause-askable g c =
    let stage = c.args.stage.now in
    subst (λ (problem : ProblemValue). IsAskable problem.implementation (Separate stage.number stage.patches c.args.base.now c.args.rests.now)) (sym c.requires.engine.same_problem)
    (askable stage c.args.base.now c.args.rests.now c.requires.stage c.requires.nets c.requires.base c.requires.rests)

pub ask_separate-requires-clause-of_problem : goal.ask_separate-requires-clause-of_problem
ask_separate-requires-clause-of_problem g c =
    let stage = c.args.stage.now in
    subst (λ (problem : ProblemValue). IsOfProblem problem NoneCompared (Separate stage.number stage.patches c.args.base.now c.args.rests.now)) (sym c.requires.engine.same_problem)
    (is_of_problem stage c.args.base.now c.args.rests.now c.requires.stage c.requires.base c.requires.rests)

pub returns-in-Never-clause-outcome : goal.returns-in-Never-clause-outcome
returns-in-Never-clause-outcome g c =
    let stage = c.args.stage.now in
    let question = Separate stage.number stage.patches c.args.base.now c.args.rests.now in
    let (posed, refuted) = subst (IsAnswered stage.problem.now question) c.in-Never.is
    (subst (λ (problem : ProblemValue). IsAnswered problem question c.in_ok-posed.field-0) c.requires.engine.same_problem c.in_ok-posed.ensures.answer) in
    refuted_here stage c.args.base.now c.args.rests.now c.in-Never.posed c.in-Never.trace posed refuted
    (no_model c.ends_empty.result c.in-Never.posed.clauses c.in-Never.trace refuted c.ends_empty.ensures.ends c.ends_empty.ensures.refutes)

pub judge-requires-clause-one : goal.judge-requires-clause-one
judge-requires-clause-one g c =
    let stage = c.args.stage.now in
    let pair = c.in_ok-pair-in-Found.field-0 in
    let separated = answered_pair stage c.args.base.now c.args.rests.now c.args.engine.now.problem c.in_ok-posed.field-0 c.in-Found.posed c.in-Found.model c.in_ok-pair-in-Found.field-0 c.requires.engine.same_problem c.in-Found.is c.in_ok-posed.ensures.answer c.in_ok-pair-in-Found.ensures in
    (separated_lengths stage c.args.rests.now (names_here stage c.args.base.now) pair.one pair.zero c.requires.stage separated).0

pub judge-requires-clause-zero : goal.judge-requires-clause-zero
judge-requires-clause-zero g c =
    let stage = c.args.stage.now in
    let pair = c.in_ok-pair-in-Found.field-0 in
    let separated = answered_pair stage c.args.base.now c.args.rests.now c.args.engine.now.problem c.in_ok-posed.field-0 c.in-Found.posed c.in-Found.model c.in_ok-pair-in-Found.field-0 c.requires.engine.same_problem c.in-Found.is c.in_ok-posed.ensures.answer c.in_ok-pair-in-Found.ensures in
    (separated_lengths stage c.args.rests.now (names_here stage c.args.base.now) pair.one pair.zero c.requires.stage separated).1

pub returns-in_ok-pair-in-Found-clause-outcome : goal.returns-in_ok-pair-in-Found-clause-outcome
returns-in_ok-pair-in-Found-clause-outcome g c =
    let stage = c.args.stage.now in
    let separated = answered_pair stage c.args.base.now c.args.rests.now c.args.engine.now.problem c.in_ok-posed.field-0 c.in-Found.posed c.in-Found.model c.in_ok-pair-in-Found.field-0 c.requires.engine.same_problem c.in-Found.is c.in_ok-posed.ensures.answer c.in_ok-pair-in-Found.ensures in
    c.judge.ensures.outcome c.args.rests.now c.args.base.now separated
