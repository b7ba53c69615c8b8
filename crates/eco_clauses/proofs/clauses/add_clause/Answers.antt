-- The clause that was made is the list's.
use Rattle.std.proofs.Common.{◌≡◌, OnOk, ap, subst, is_some}
use Rattle.eco_trace.specs.Clauses.{Clauses, HasBothSigns}
use Rattle.eco_trace.proofs.ClauseLaws.{clause_within}
use Rattle.eco_clauses.proofs.ClauseLists.{made_of, one_added, none_added}
use Rattle.eco_clauses.proofs.clauses.add_clause.Goals as goal

pub add-requires : goal.add-requires
add-requires c =
    let lits = c.args.lits.now in
    let of = made_of c.in_ok-clause.field-0 c.in-Some.clause c.in_ok-lits.lits.items lits c.in-Some.is c.in_ok-lits.ensures.items c.in_ok-clause.ensures.some in
    record { within = clause_within c.args.cnf.now.vars lits c.in-Some.clause of c.requires }

pub returns-in-Some : goal.returns-in-Some
returns-in-Some c =
    let lits = c.args.lits.now in
    let of = made_of c.in_ok-clause.field-0 c.in-Some.clause c.in_ok-lits.lits.items lits c.in-Some.is c.in_ok-lits.ensures.items c.in_ok-clause.ensures.some in
    subst (λ (all : Clauses). OnOk c.add.result (c.add.new.self ≡ all)) (one_added c.args.cnf.now lits c.in-Some.clause of) c.add.ensures.ok

pub returns-in-None : goal.returns-in-None
returns-in-None c =
    let both : HasBothSigns c.args.lits.now = subst HasBothSigns c.in_ok-lits.ensures.items (c.in_ok-clause.ensures.none.0 (ap is_some c.in-None.is)) in
    none_added c.args.cnf.now c.args.lits.now both
