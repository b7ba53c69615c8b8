-- A refutation shows the claim, and a model refutes it.
use Rattle.std.proofs.Common.{subst}
use Rattle.eco_trace.specs.Clauses.{IsUnsatisfiable}
use Rattle.eco_trace.specs.Verdicts.{IsVerdict}
use Rattle.eco_merge.proofs.Asking.{question_refuted, question_modelled}
use Rattle.eco_merge.proofs.question.decide.Goals as goal

pub returns-in-Unsat : goal.returns-in-Unsat
returns-in-Unsat c = λ limit verdict.
    let claim = c.args.claim in
    let cnf = c.args.question.cnf in
    let is = subst (IsVerdict cnf limit) c.in-Unsat.is verdict in
    question_refuted c.args.aig.now claim.node claim.other claim.same cnf c.requires.question (subst IsUnsatisfiable is.refutation.originals (c.ends_empty.ensures.refutes (c.ends_empty.ensures.ends.1 is.refutation.ends)))

pub returns-in_ok-row-in-Sat : goal.returns-in_ok-row-in-Sat
returns-in_ok-row-in-Sat c = λ limit verdict.
    let claim = c.args.claim in
    let cnf = c.args.question.cnf in
    let is = subst (IsVerdict cnf limit) c.in-Sat.is verdict in
    (question_modelled c.args.aig.now claim.node claim.other claim.same cnf _ c.requires.question is.satisfies, c.in_ok-row-in-Sat.ensures)
