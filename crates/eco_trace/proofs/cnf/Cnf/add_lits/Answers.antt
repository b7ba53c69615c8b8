-- The literals are those of a clause, within the variables.
use Rattle.std.proofs.Common.{◌≢◌, sym, subst}
use Rattle.std.specs.List.{All, AllPairs}
use Rattle.eco_trace.specs.Clauses.{IsVarWithin, IsClauseOf}
use Rattle.eco_trace.proofs.AddingLaws.{made_clause, no_clause, no_both_signs}
use Rattle.eco_trace.proofs.ClauseLaws.{clause_within}
use Rattle.eco_trace.proofs.cnf.Cnf.add_lits.Goals as goal

pub add-requires : goal.add-requires
add-requires c =
    let lits = c.in_ok-lits.lits.items in
    let of = made_clause c.in_ok-clause.field-0 c.in-Some.clause (IsClauseOf lits) c.in-Some.is c.in_ok-clause.ensures.some in
    record { within = clause_within c.args.self.now.vars lits c.in-Some.clause of (subst (All (IsVarWithin c.args.self.now.vars)) (sym c.in_ok-lits.ensures.items) c.requires.within) }

pub unreachable-requires : goal.unreachable-requires
unreachable-requires c =
    no_both_signs c.in_ok-lits.lits.items (subst (AllPairs (λ l m. l.var.0 ≢ m.var.0)) (sym c.in_ok-lits.ensures.items) c.requires.apart) (c.in_ok-clause.ensures.none.0 (no_clause c.in_ok-clause.field-0 c.in-None.is))
