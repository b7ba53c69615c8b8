-- What each answer says.
use Rattle.std.proofs.Common.{length, arith, ap, subst}
use Rattle.std.proofs.lemmas.List.{length-append}
use Rattle.eco_pose.specs.Stuck.{IsAnswered}
use Rattle.eco_pose.specs.declared.question.Question.TheVariants.{Fix}
use Rattle.eco_base.proofs.AskLaws.{no_model, none_fixed, model_begins, model_rest}
use Rattle.eco_base.proofs.resting.rest_of.Goals as goal

pub returns-in-Never : goal.returns-in-Never
returns-in-Never c = λ input asked targets are.
    let problem = c.args.stage.now.problem.now in
    let answered = subst (IsAnswered problem (Fix input c.args.fixed.now)) c.in-Never.is asked in
    none_fixed problem.implementation problem.goal targets c.args.fixed.now input c.in-Never.posed (answered.0.asks targets are)
    (no_model c.ends_empty.result c.in-Never.posed.clauses c.in-Never.trace answered.1 c.ends_empty.ensures.ends c.ends_empty.ensures.refutes)

pub rest_behind-requires-clause-count : goal.rest_behind-requires-clause-count
rest_behind-requires-clause-count c =
    let problem = c.args.stage.now.problem.now in
    let answered = subst (IsAnswered problem (Fix c.requires.asked.0 c.args.fixed.now)) c.in-Found.is c.requires.asked.1 in
    let (rest, begins) = model_begins c.args.stage.now c.args.fixed.now c.requires.asked.0 c.in-Found.posed c.in-Found.model c.requires.stage answered.0 answered.1 in
    omega (arith, ap length begins, length-append c.args.fixed.now rest, ap length c.as_slice.ensures)

pub returns-in_ok-rest-in-Found : goal.returns-in_ok-rest-in-Found
returns-in_ok-rest-in-Found c = λ input asked.
    let problem = c.args.stage.now.problem.now in
    let answered = subst (IsAnswered problem (Fix input c.args.fixed.now)) c.in-Found.is asked in
    model_rest c.args.stage.now c.args.fixed.now input c.in-Found.posed c.in-Found.model c.in_ok-rest-in-Found.rest (length c.as_slice.result.now) answered.0 answered.1
    (ap length c.as_slice.ensures) c.in_ok-rest-in-Found.ensures
