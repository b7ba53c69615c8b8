-- A refutation shows that there is no model.
use Rattle.std.proofs.Common.{subst}
use Rattle.eco_trace.specs.Clauses.{IsUnsatisfiable}
use Rattle.eco_trace.specs.Verdicts.{IsVerdict}
use Rattle.eco_accept.proofs.search.search_in.Goals as goal

pub returns-in-Unsat : goal.returns-in-Unsat
returns-in-Unsat g c =
    let is = subst (IsVerdict c.args.cnf.now c.args.limit) c.in-Unsat.is c.in_ok-trace.ensures in
    subst IsUnsatisfiable is.refutation.originals (c.ends_empty.ensures.refutes (c.ends_empty.ensures.ends.1 is.refutation.ends))
