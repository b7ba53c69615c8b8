-- Where the clauses have no model, the edge's bit is never 1; a search that gave up did so on these clauses.
use Rattle.std.proofs.Common.{sym, ap, subst}
use Rattle.std.proofs.lemmas.Result.{IfOk-weaker}
use Rattle.eco_trace.specs.Clauses.{Clauses, Valuation, Satisfies}
use Rattle.eco_trace.specs.Resolution.{Proof}
use Rattle.eco_trace.specs.Verdicts.{IsSpent}
use Rattle.eco_sweep.specs.Questions.{IsNever, IsQuestionSpent, IfNever, IfSpent}
use Rattle.eco_sweep.proofs.Asking.{never_one}
use Rattle.eco_sweep.proofs.Differing.{if_never, if_spent}
use Rattle.eco_sweep.proofs.question.can_be_one.Goals as goal

pub returns-clause-never : goal.returns-clause-never
returns-clause-never g c =
    let graph = c.args.graph.now in
    let edge = c.args.edge in
    let cnf = c.finish-cnf.result in
    let is = c.in-Ok.ensures in
    let encoding = c.asserted.new.encoder in
    let models = c.finish-cnf.ensures.models graph _ _ is.encoding_is in
    let clauses = ap (λ (x : Clauses). x.clauses) c.finish-cnf.ensures.clauses in
    IfOk-weaker c.answer_of-answer.result (λ answer. IfNever answer ((v : Valuation) → Satisfies v cnf.clauses → ⊥)) (λ answer. IfNever answer (IsNever graph edge)) (λ answer.
    if_never answer (λ none. never_one graph encoding.nodes encoding.clauses is.lit edge models is.value (λ v holds. none v (subst (Satisfies v) (sym clauses) holds)))) c.answer_of-answer.ensures.never

pub returns-clause-spent : goal.returns-clause-spent
returns-clause-spent g c =
    let graph = c.args.graph.now in
    let edge = c.args.edge in
    let limit = c.args.limit in
    let cnf = c.finish-cnf.result in
    IfOk-weaker c.answer_of-answer.result (λ answer. IfSpent answer ((proof : Proof) × IsSpent cnf limit proof)) (λ answer. IfSpent answer (IsQuestionSpent graph edge limit)) (λ answer.
    if_spent answer (λ found. record { encoding = c.asserted.new.encoder; asserted = c.in-Ok.ensures; proof = found.0; spent = subst (λ clauses. IsSpent clauses limit found.0) c.finish-cnf.ensures.clauses found.1 })) c.answer_of-answer.ensures.spent
