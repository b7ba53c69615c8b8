-- A refutation leaves no model, and a proof that is spent has as many learnt clauses as the limit allows.
use Rattle.std.proofs.Common.{sym, subst}
use Rattle.eco_trace.specs.Clauses.{Satisfies}
use Rattle.eco_trace.specs.Verdicts.{IsVerdict, IsRefutedWithin}
use Rattle.eco_sweep.proofs.Asking.{no_model}
use Rattle.eco_sweep.proofs.question.answer_of.Goals as goal

pub returns-in-Unsat-clause-never : goal.returns-in-Unsat-clause-never
returns-in-Unsat-clause-never g c =
    let refuted : IsRefutedWithin c.args.cnf.now c.args.limit c.in-Unsat.trace = subst (IsVerdict c.args.cnf.now c.args.limit) c.in-Unsat.is c.in_ok-model.ensures in
    λ v holds. no_model c.in-Unsat.trace refuted.refutation.ends c.is_sound.ensures.sound v (subst (Satisfies v) (sym refuted.refutation.originals) holds)

pub returns-in-Spent-clause-spent : goal.returns-in-Spent-clause-spent
returns-in-Spent-clause-spent g c =
    (c.in-Spent.trace, subst (IsVerdict c.args.cnf.now c.args.limit) c.in-Spent.is c.in_ok-model.ensures)
