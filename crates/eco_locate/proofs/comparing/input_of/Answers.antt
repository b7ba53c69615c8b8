-- A refutation leaves no wrong input, and a model is read as one.
use Rattle.std.proofs.Common.{sym, subst}
use Rattle.eco_meaning.specs.Meaning.{IsWrong}
use Rattle.eco_trace.specs.Clauses.{IsUnsatisfiable, valuation_of}
use Rattle.eco_pose.specs.declared.question.Question.TheVariants as questions
use Rattle.eco_pose.specs.Stuck.{IsAnswered}
use Rattle.eco_locate.proofs.comparing.input_of.Goals as goal

pub returns-in-Never : goal.returns-in-Never
returns-in-Never c problem f goal answered x wrong =
    let (posed, refuted) = subst (IsAnswered problem (questions.Equal f goal.spec goal.care)) c.in-Never.is answered in
    let never = c.ends_empty.ensures.refutes (c.ends_empty.ensures.ends.1 refuted.ends) in
    let (v, satisfied, same) = posed.asks.answers x wrong in
    subst IsUnsatisfiable refuted.originals never v satisfied

pub returns-in_ok-input-in-Found : goal.returns-in_ok-input-in-Found
returns-in_ok-input-in-Found c problem f goal answered =
    let (posed, model) = subst (IsAnswered problem (questions.Equal f goal.spec goal.care)) c.in-Found.is answered in
    subst (IsWrong f goal) (sym c.in_ok-input-in-Found.ensures) (posed.asks.models (valuation_of c.in-Found.model) model.satisfies)
