-- A clause stays one where its variables are shifted.
use Rattle.std.proofs.Common.{sym, subst}
use Rattle.eco_trace.specs.Clauses.{IsClause}
use Rattle.eco_trace.proofs.ShiftLaws.{shifted_clause}
use Rattle.eco_trace.proofs.clause.Clause.shifted.Goals as goal

pub invariant_of-result : goal.invariant_of-result
invariant_of-result c =
    subst IsClause (sym c.in_ok-lits.ensures) (shifted_clause c.args.by c.as_slice.result.now (subst IsClause (sym c.as_slice.ensures.value) c.self.invariant))
