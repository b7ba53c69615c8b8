-- A refutation leaves no such values, a model is read as some, and no search is spent.
use Rattle.std.proofs.Common.{refl, subst, arith}
use Rattle.std.proofs.lemmas.Bool.{false≢true}
use Rattle.eco_meaning.specs.Report.{targets_of}
use Rattle.eco_pose.specs.Stuck.{IsAnswered}
use Rattle.eco_pose.specs.declared.question.Question.TheVariants as questions
use Rattle.eco_trace.specs.Clauses.{valuation_of}
use Rattle.eco_audit.proofs.Forced.{no_model}
use Rattle.eco_audit.proofs.forcing.is_never.Goals as goal

pub returns-in-Never : goal.returns-in-Never
returns-in-Never c = λ s x fixed judged answered.
    let (posed, refuted) = subst (IsAnswered s.problem.now (questions.Fix x fixed)) c.in-Never.is answered in
    let asks = posed.asks (targets_of s.report.now) (judged.before 1 (omega arith)) in (
      λ holds bits found.
          let (v, satisfied, same) = asks.answers bits found in
          no_model c.in-Never.posed.clauses c.in-Never.trace refuted (λ ends. c.ends_empty.ensures.refutes (c.ends_empty.ensures.ends.1 ends)) v satisfied,
      λ never. refl,
    )

pub returns-in-Found : goal.returns-in-Found
returns-in-Found c = λ s x fixed judged answered.
    let (posed, model) = subst (IsAnswered s.problem.now (questions.Fix x fixed)) c.in-Found.is answered in
    let asks = posed.asks (targets_of s.report.now) (judged.before 1 (omega arith)) in
    (λ holds. absurd (false≢true holds), λ never. absurd (never _ (asks.models (valuation_of c.in-Found.model) model.satisfies)))
