-- The shifted clause is within the variables.
use Rattle.std.proofs.Common.{◌≤◌, ◌+◌, ap, sym, subst, arith}
use Rattle.std.specs.List.{All}
use Rattle.std.proofs.lemmas.List.Elements.{All-get_or}
use Rattle.eco_trace.specs.Clauses.{Clauses, IsVarWithin}
use Rattle.eco_trace.proofs.ShiftLaws.{shifted_within}
use Rattle.eco_trace.proofs.cnf.Cnf.add_shifted.Goals as goal

pub add-requires : goal.add-requires
add-requires c =
    let vars = c.args.others.now.vars in
    let most = c.loop-clause.self.vars in
    let clauses = c.clauses-clause-items in
    let clause = c.clause-item.result in
    let room : vars + c.args.by ≤ most = omega (arith, c.requires.within, ap (λ (k : Clauses). k.vars) c.loop-clause.invariant) in
    let each = subst (All (All (IsVarWithin vars))) (sym clauses.ensures.clauses) clauses.ensures.formed.within in
    let here = subst (All (IsVarWithin vars)) (sym c.clause-item.is) (All-get_or (All (IsVarWithin vars)) clauses.result.now c.loop-clause.clause-index clause c.loop-clause-test.true each) in
    record { within = subst (All (IsVarWithin most)) (sym c.in_ok-shifted.ensures) (shifted_within c.args.by vars most clause room here) }
