use Rattle.std.proofs.Common.{sym, ◌∙◌}
use Rattle.std.proofs.lemmas.Result.{err_from_is_err_and}
use Rattle.eco_query.proofs.problem.pair.Goals as goal

pub examine-requires-clause-care_closed : goal.examine-requires-clause-care_closed
examine-requires-clause-care_closed c = λ own is. c.requires.care_closed own (sym c.as_ref.ensures.value ∙ is)

pub returns-in_err-examine : goal.returns-in_err-examine
returns-in_err-examine c =
    let p = err_from_is_err_and c.from_residual.result c.from_residual.ensures.1 in
    rw (p.1, p.2) (rw c.as_ref.ensures.value at c.in_err-examine.ensures)
