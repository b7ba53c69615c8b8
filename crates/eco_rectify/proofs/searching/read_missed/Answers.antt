-- A refutation leaves no missed input, and a model is read as one.
use Rattle.std.proofs.Common.{sym, subst}
use Rattle.eco_trace.specs.Clauses.{valuation_of}
use Rattle.eco_pose.specs.declared.question.Question.TheVariants as questions
use Rattle.eco_pose.specs.Stuck.{IsAnswered}
use Rattle.eco_laws.specs.Asked.{IsMissed}
use Rattle.eco_rectify.proofs.Asking.{no_answer}
use Rattle.eco_rectify.proofs.searching.read_missed.Goals as goal

pub returns-in-Never : goal.returns-in-Never
returns-in-Never c problem rows listed answered targets are =
    let (posed, refuted) = subst (IsAnswered problem (questions.Rectify rows)) c.in-Never.is answered in
    no_answer (IsMissed problem.implementation problem.goal targets rows) c.in-Never.posed.first c.in-Never.posed.clauses c.in-Never.trace
    (posed.asks targets are) refuted (c.ends_empty.ensures.refutes (c.ends_empty.ensures.ends.1 refuted.ends))

pub returns-in_ok-input-in-Found : goal.returns-in_ok-input-in-Found
returns-in_ok-input-in-Found c problem rows listed answered targets are =
    let (posed, model) = subst (IsAnswered problem (questions.Rectify rows)) c.in-Found.is answered in
    subst (IsMissed problem.implementation problem.goal targets rows) (sym c.in_ok-input-in-Found.ensures)
    ((posed.asks targets are).models (valuation_of c.in-Found.model) model.satisfies)
