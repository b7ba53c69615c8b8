-- The outputs' literals are within the nets' variables, and the clauses are all.
use Rattle.std.proofs.Common.{◌≡◌, length, map, All, OnOk, ap, sym, ◌∙◌, subst, arith}
use Rattle.std.proofs.lemmas.List.{length-map}
use Rattle.eco_meaning.specs.Circuit.{names}
use Rattle.eco_trace.specs.Clauses.{Clauses, IsVarWithin}
use Rattle.eco_equality.specs.Numbering.{left_literal, right_literal}
use Rattle.eco_equality.proofs.Counts.{vars_differences}
use Rattle.eco_equality.proofs.Numbered.{known_outputs, ones_within, others_within, whole_equality}
use Rattle.eco_clauses.proofs.Naming.{new_within}
use Rattle.eco_equality.proofs.equality.add_differences.Goals as goal

pub literals_by_name-requires-clause-known : goal.literals_by_name-requires-clause-known
literals_by_name-requires-clause-known c =
    known_outputs c.args.left.now c.args.right.now _ c.nets-2.ensures.checked c.requires.ports c.outputs-2.ensures.named

pub fresh_differences-requires-clause-ones : goal.fresh_differences-requires-clause-ones
fresh_differences-requires-clause-ones c =
    let left = c.args.left.now in
    ones_within left c.args.right.now c.args.cnf.now c.as_slice.result.now c.nets.ensures.checked c.requires.cnf
    (c.as_slice.ensures.value ∙ c.in_ok-ones.ensures (names left) (left_literal left) c.requires.left ∙ ap (map (left_literal left)) c.outputs.ensures.named)

pub fresh_differences-requires-clause-others : goal.fresh_differences-requires-clause-others
fresh_differences-requires-clause-others c =
    let left = c.args.left.now in
    let right = c.args.right.now in
    others_within left right c.args.cnf.now c.as_slice-2.result.now c.nets-2.ensures.checked c.requires.ports c.requires.cnf
    (c.as_slice-2.ensures.value ∙ c.in_ok-others.ensures (right_literal left right) c.requires.right ∙ ap (map (right_literal left right)) c.outputs-2.ensures.named)

pub add_clause-requires : goal.add_clause-requires
add_clause-requires c =
    let left = c.args.left.now in
    let right = c.args.right.now in
    let ones = c.as_slice.result.now in
    let others = c.as_slice-2.result.now in
    let one_count = ap length (c.as_slice.ensures.value ∙ c.in_ok-ones.ensures (names left) (left_literal left) c.requires.left ∙ ap (map (left_literal left)) c.outputs.ensures.named) ∙ length-map left.outputs (left_literal left) in
    let other_count = ap length (c.as_slice-2.ensures.value ∙ c.in_ok-others.ensures (right_literal left right) c.requires.right ∙ ap (map (right_literal left right)) c.outputs-2.ensures.named) ∙ length-map left.outputs (right_literal left right) in
    let vars = ap (λ (d : Clauses). d.vars) c.in_ok-differences.ensures.clauses ∙ vars_differences c.args.cnf.now ones others (one_count ∙ sym other_count) in
    let all = new_within c.args.cnf.now.vars c.fresh_differences.new.cnf.vars ones (omega (arith, vars)) in
    subst (All (IsVarWithin c.fresh_differences.new.cnf.vars)) (sym (c.as_slice-3.ensures.value ∙ c.in_ok-differences.ensures.literals)) all

pub returns : goal.returns
returns c =
    let left = c.args.left.now in
    let right = c.args.right.now in
    let ones = c.as_slice.result.now in
    let others = c.as_slice-2.result.now in
    let are_ones = c.as_slice.ensures.value ∙ c.in_ok-ones.ensures (names left) (left_literal left) c.requires.left ∙ ap (map (left_literal left)) c.outputs.ensures.named in
    let are_others = c.as_slice-2.ensures.value ∙ c.in_ok-others.ensures (right_literal left right) c.requires.right ∙ ap (map (right_literal left right)) c.outputs-2.ensures.named in
    subst (λ (d : Clauses). OnOk c.add_clause.result (c.add_clause.new.cnf ≡ d))
    (whole_equality left right c.args.cnf.now c.fresh_differences.new.cnf ones others c.as_slice-3.result.now c.requires.cnf are_ones are_others (c.as_slice-3.ensures.value ∙ c.in_ok-differences.ensures.literals) c.in_ok-differences.ensures.clauses)
    c.add_clause.ensures
