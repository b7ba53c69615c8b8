-- The clauses, the equalities and the mark, one behind another.
use Rattle.std.proofs.Common.{[], ◌∷◌, ap, subst}
use Rattle.std.proofs.lemmas.Result.{on_ok_weaker}
use Rattle.eco_trace.specs.Adding.{AddsClausesOf, shifted}
use Rattle.eco_trace.specs.Clauses.{Clauses}
use Rattle.eco_accept.specs.Posing.{AreEqual, HaveAlso}
use Rattle.eco_accept.proofs.Adding.{also_lits, also_shifted}
use Rattle.eco_accept.proofs.Questions.{function_added}
use Rattle.eco_accept.proofs.posing.add_function.Goals as goal

pub returns-clause-models : goal.returns-clause-models
returns-clause-models c =
    let by = c.vars-by.result in
    let function = c.args.function.now in
    let lacks = c.against-lacks.result in
    let wide = c.widen.new.self in
    let one = c.add_shifted.new.self in
    let two = c.add_pairs.new.cnf in
    let three = c.add_lits.new.self in
    on_ok_weaker c.add_lits.result
    (λ adds. function_added c.args.cnf.now wide one two three c.args.cnf.now.vars by function c.args.part lacks c.vars-by.ensures (ap (λ (k : Clauses). k.clauses) c.widen.ensures) c.against-lacks.ensures
    (also_shifted wide one by function.cnf.clauses c.in_ok-add_shifted.ensures.ok)
    (subst (λ list. HaveAlso one two (AreEqual by list)) c.as_slice.ensures.value c.in_ok-add_pairs.ensures.models)
    (also_lits two three (shifted by lacks ∷ []) (subst (λ l. AddsClausesOf two three ((l ∷ []) ∷ [])) c.shifted.ensures adds)))
    c.add_lits.ensures.ok
