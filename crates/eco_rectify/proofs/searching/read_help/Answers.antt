-- A refutation leaves no values that are right, and a model is read as such values.
use Rattle.std.proofs.Common.{[], sym, subst}
use Rattle.eco_trace.specs.Clauses.{valuation_of}
use Rattle.eco_pose.specs.declared.question.Question.TheVariants as questions
use Rattle.eco_pose.specs.Stuck.{IsAnswered}
use Rattle.eco_laws.specs.Asked.{IsFixed}
use Rattle.eco_rectify.proofs.Asking.{no_answer}
use Rattle.eco_rectify.proofs.searching.read_help.Goals as goal

pub returns-in-Never : goal.returns-in-Never
returns-in-Never c problem input answered targets are =
    let (posed, refuted) = subst (IsAnswered problem (questions.Fix input [])) c.in-Never.is answered in
    no_answer (IsFixed problem.implementation problem.goal targets [] input) c.in-Never.posed.targets c.in-Never.posed.clauses c.in-Never.trace
    (posed.asks targets are) refuted (c.ends_empty.ensures.refutes (c.ends_empty.ensures.ends.1 refuted.ends))

pub returns-in_ok-values-in-Found : goal.returns-in_ok-values-in-Found
returns-in_ok-values-in-Found c problem input answered targets are =
    let (posed, model) = subst (IsAnswered problem (questions.Fix input [])) c.in-Found.is answered in
    subst (IsFixed problem.implementation problem.goal targets [] input) (sym c.in_ok-values-in-Found.ensures)
    ((posed.asks targets are).models (valuation_of c.in-Found.model) model.satisfies)
