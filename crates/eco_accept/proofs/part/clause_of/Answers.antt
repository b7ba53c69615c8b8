-- A clause's literals have no variable with both signs, and their clause is this one.
use Rattle.std.proofs.Common.{sym, subst, ◌∙◌}
use Rattle.eco_trace.specs.Clauses.{IsClause, IsClauseOf}
use Rattle.eco_trace.proofs.AddingLaws.{clause_again, made_clause, no_clause}
use Rattle.eco_trace.proofs.ClauseLaws.{clause_one_sided}
use Rattle.eco_accept.proofs.part.clause_of.Goals as goal

pub unreachable-requires : goal.unreachable-requires
unreachable-requires c =
    let lits = c.in_ok-lits.lits.items in
    let both = c.in_ok-clause.ensures.none.0 (no_clause c.in_ok-clause.field-0 c.in-None.is) in
    clause_one_sided lits (subst IsClause (sym c.in_ok-lits.ensures.items) c.requires) both.0 both.1 both.2

pub returns : goal.returns
returns c =
    let lits = c.in_ok-lits.lits.items in
    let of = made_clause c.in_ok-clause.field-0 c.in-Some.clause (IsClauseOf lits) c.in-Some.is c.in_ok-clause.ensures.some in
    clause_again lits c.in-Some.clause (subst IsClause (sym c.in_ok-lits.ensures.items) c.requires) of ∙ c.in_ok-lits.ensures.items
