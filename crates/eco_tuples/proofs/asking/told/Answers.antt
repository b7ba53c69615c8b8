-- A refutation leaves no model; a model is read; a spent search is kept as it is.
use Rattle.std.proofs.Common.{arith, sym, ap, ◌∙◌, subst}
use Rattle.eco_trace.specs.Clauses.{IsUnsatisfiable, read, valuation_of}
use Rattle.eco_trace.specs.Verdicts.{IsVerdict, IsModel, IsRefutedWithin}
use Rattle.eco_tuples.proofs.asking.told.Goals as goal

pub bits_of-bits-requires-clause-model : goal.bits_of-bits-requires-clause-model
bits_of-bits-requires-clause-model c =
    let is : IsModel c.args.side.now.cnf c.in-Sat.model = subst (IsVerdict c.args.side.now.cnf c.args.limit) c.in-Sat.is c.requires.verdict in
    omega (arith, c.vars.ensures, is.complete)

pub returns-in-Unsat : goal.returns-in-Unsat
returns-in-Unsat c =
    let is : IsRefutedWithin c.args.side.now.cnf c.args.limit c.in-Unsat.trace = subst (IsVerdict c.args.side.now.cnf c.args.limit) c.in-Unsat.is c.requires.verdict in
    subst IsUnsatisfiable is.refutation.originals (c.ends_empty.ensures.refutes (c.ends_empty.ensures.ends.1 is.refutation.ends))

pub returns-in_ok-bits-in-Sat : goal.returns-in_ok-bits-in-Sat
returns-in_ok-bits-in-Sat c =
    let is : IsModel c.args.side.now.cnf c.in-Sat.model = subst (IsVerdict c.args.side.now.cnf c.args.limit) c.in-Sat.is c.requires.verdict in
    (valuation_of c.in-Sat.model, is.satisfies, ap (read (valuation_of c.in-Sat.model)) (sym c.as_slice.ensures.value) ∙ sym c.in_ok-bits-in-Sat.ensures)

pub returns-in-Spent : goal.returns-in-Spent
returns-in-Spent c = (c.in-Spent.trace, subst (IsVerdict c.args.side.now.cnf c.args.limit) c.in-Spent.is c.requires.verdict)
