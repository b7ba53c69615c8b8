-- What holds of the format's clauses holds of those that were made.
use Rattle.std.proofs.Common.{◌≤◌, ◌+◌, ◌*◌, List, sym, ◌∙◌, ap, subst}
use Rattle.eco_meaning.specs.Meaning.{everywhere, IsWrong}
use Rattle.eco_trace.specs.declared.clause.Lit.{Lit}
use Rattle.eco_trace.specs.Clauses.{Clauses, Satisfies, read}
use Rattle.eco_equality.specs.Equality.{size}
use Rattle.eco_equality.proofs.Models.{models_wrong, wrong_modelled}
use Rattle.eco_equality.proofs.Numbered.{inputs_within}
use Rattle.eco_equality.proofs.Sizes.{few_variables}
use Rattle.eco_equality.proofs.equality.equality_clauses.Goals as goal

pub returns-clause-within : goal.returns-clause-within
returns-clause-within c =
    inputs_within c.args.left.now c.args.right.now _ _ c.in_ok-add_differences.ensures c.in_ok-cnf.ensures.inputs

pub returns-clause-models : goal.returns-clause-models
returns-clause-models c =
    λ v h.
    let left = c.args.left.now in
    let right = c.args.right.now in
    let clauses = ap (λ (d : Clauses). d.clauses) c.in_ok-add_differences.ensures in
    subst (λ (lits : List Lit). IsWrong left (everywhere right) (read v lits)) (sym c.in_ok-cnf.ensures.inputs)
    (models_wrong left right c.requires.ports c.nets.ensures.checked c.nets-2.ensures.checked c.requires.left_closed c.requires.right_closed v (subst (Satisfies v) clauses h))

pub returns-clause-answers : goal.returns-clause-answers
returns-clause-answers c =
    λ x wrong.
    let left = c.args.left.now in
    let right = c.args.right.now in
    let clauses = ap (λ (d : Clauses). d.clauses) c.in_ok-add_differences.ensures in
    let found = wrong_modelled left right c.requires.ports c.nets.ensures.checked c.nets-2.ensures.checked c.requires.left_closed c.requires.right_closed x wrong in
    (found.0, subst (Satisfies found.0) (sym clauses) found.1, ap (read found.0) c.in_ok-cnf.ensures.inputs ∙ found.2)

pub returns-clause-count : goal.returns-clause-count
returns-clause-count c =
    let left = c.args.left.now in
    let right = c.args.right.now in
    subst (λ (d : Clauses). d.vars ≤ 2 * (1 + size left + size right)) (sym c.in_ok-add_differences.ensures) (few_variables left right c.nets.ensures.checked c.nets-2.ensures.checked)
