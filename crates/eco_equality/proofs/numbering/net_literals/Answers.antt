-- The given literals and the new ones are those of the names.
use Rattle.std.proofs.Common.{◌≡◌, map, OnOk, ◌∙◌, ap, subst}
use Rattle.std.proofs.lemmas.Result.{IfOk-weaker}
use Rattle.eco_meaning.specs.Circuit.{names}
use Rattle.eco_clauses.specs.Listing.{with_variables}
use Rattle.eco_equality.specs.Numbering.{net_literal}
use Rattle.eco_equality.specs.Numbers.{given_literal, filled_literals, open_places}
use Rattle.eco_equality.proofs.Naming.{filled_names, open_inner}
use Rattle.eco_equality.proofs.numbering.net_literals.Goals as goal

pub returns-clause-literals : goal.returns-clause-literals
returns-clause-literals c =
    λ shared literals.
    let n = c.args.netlist.now in
    let vars = c.args.cnf.now.vars in
    let given : c.as_slice.result.now ≡ map (given_literal shared n.inputs) (names n) = c.as_slice.ensures.value ∙ c.in_ok-given.ensures shared literals in
    IfOk-weaker c.fill_literals.result (λ lits. lits.items ≡ filled_literals vars c.as_slice.result.now) (λ lits. lits.items ≡ map (net_literal n shared vars) (names n)) (λ lits is.
    is ∙ ap (filled_literals vars) given ∙ filled_names shared n.inputs vars (names n) c.nets.ensures.checked.distinct) c.fill_literals.ensures.literals

pub returns-clause-more : goal.returns-clause-more
returns-clause-more c =
    λ shared literals.
    let n = c.args.netlist.now in
    let given : c.as_slice.result.now ≡ map (given_literal shared n.inputs) (names n) = c.as_slice.ensures.value ∙ c.in_ok-given.ensures shared literals in
    subst (λ k. OnOk c.fill_literals.result (c.fill_literals.new.cnf ≡ with_variables k c.args.cnf.now)) (ap open_places given ∙ open_inner shared n.inputs (names n)) c.fill_literals.ensures.more
