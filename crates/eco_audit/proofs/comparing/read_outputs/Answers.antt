-- A refutation leaves no wrong input, and a model is read as one.
use Rattle.std.proofs.Common.{sym, subst}
use Rattle.eco_meaning.specs.Meaning.{IsWrong}
use Rattle.eco_netlist.proofs.SoundNetlists.{sound_netlist}
use Rattle.eco_pose.specs.declared.question.Question.TheVariants as questions
use Rattle.eco_pose.specs.Stuck.{IsAnswered}
use Rattle.eco_pose.proofs.Equivalence.{none_wrong_is_equivalent}
use Rattle.eco_trace.specs.Clauses.{IsUnsatisfiable, valuation_of}
use Rattle.eco_audit.proofs.comparing.read_outputs.Goals as goal

pub returns-in-Never : goal.returns-in-Never
returns-in-Never c problem out checked closed cares answered =
    let (posed, refuted) = subst (IsAnswered problem (questions.Equal out problem.goal.spec problem.goal.care)) c.in-Never.is answered in
    let never = c.ends_empty.ensures.refutes (c.ends_empty.ensures.ends.1 refuted.ends) in
    none_wrong_is_equivalent out problem.goal (sound_netlist out checked) closed cares
    (λ x wrong.
    let (v, satisfied, same) = posed.asks.answers x wrong in
    subst IsUnsatisfiable refuted.originals never v satisfied)

pub returns-in_ok-input-in-Found : goal.returns-in_ok-input-in-Found
returns-in_ok-input-in-Found c problem out checked closed cares answered =
    let (posed, model) = subst (IsAnswered problem (questions.Equal out problem.goal.spec problem.goal.care)) c.in-Found.is answered in
    subst (IsWrong out problem.goal) (sym c.in_ok-input-in-Found.ensures) (posed.asks.models (valuation_of c.in-Found.model) model.satisfies)
