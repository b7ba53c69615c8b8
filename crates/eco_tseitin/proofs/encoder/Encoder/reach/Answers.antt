use Rattle.std.proofs.Common.{[], ◌++◌, ◌∷◌, append_assoc, ◌≡◌, ◌<◌, ◌≤◌, ◌+◌, eqb, length, get_or, Some, sym, ◌∙◌, ap, subst, arith}
use Rattle.std.specs.List.{slice_get, IsDistinct}
use Rattle.std.proofs.lemmas.Option.{slice_get-get_or}
use Rattle.eco_tseitin.specs.Encoding.{Encoding, variable_of}
use Rattle.eco_tseitin.proofs.Places.{variable_stays, distinct_apart}
use Rattle.eco_tseitin.proofs.Progress.{IsProgress, begun, next_within, stepped, bounded}
use Rattle.eco_tseitin.proofs.Growing.{encoded}
use Rattle.eco_trace.specs.Clauses.{IsVarWithin}
use Rattle.eco_tseitin.proofs.Literals.{literal_value, constant_literal}
use Rattle.eco_tseitin.proofs.Naming.{literal_within}
use Rattle.eco_tseitin.proofs.Fronts.{if_err, front_same, front_join, front_progress}
use Rattle.eco_tseitin.proofs.encoder.Encoder.reach.Goals as goal

pub loop-place-init : goal.loop-place-init
loop-place-init c =
    let old = c.args.self.now in
    let at : c.len-place.result ≡ length old.nodes = c.len-place.ensures.len ∙ ap (λ (e : Encoding). length e.nodes) c.self.view_is in
    subst (IsProgress c.args.aig.now old c.literal.new.self c.args.edge c.in_ok-literal.literal) (sym at) (begun c.args.aig.now old c.literal.new.self c.args.edge c.in_ok-literal.literal c.requires c.in_ok-literal.ensures.literal c.in_ok-literal.ensures.named)

pub add_node-requires-clause-within : goal.add_node-requires-clause-within
add_node-requires-clause-within c =
    let now = c.loop-place.self in
    let view = c.self-in-loop-place.view_is in
    let lt : c.loop-place.place < length now.nodes = omega (arith, c.loop-place-test.true, c.len.ensures.len, ap (λ (e : Encoding). length e.nodes) view) in
    let list : c.as_slice.result.now ≡ now.nodes = c.as_slice.ensures.keys ∙ ap (λ (e : Encoding). e.nodes) view in
    let here : slice_get now.nodes c.loop-place.place ≡ Some (get_or c.as_slice.result.now c.loop-place.place 0) = slice_get-get_or now.nodes c.loop-place.place 0 lt ∙ ap (λ xs. Some (get_or xs c.loop-place.place 0)) (sym list) in
    next_within c.args.aig.now c.args.self.now now c.args.edge c.in_ok-literal.literal c.loop-place.place _ here lt c.loop-place.invariant

pub loop-place-smaller : goal.loop-place-smaller
loop-place-smaller c =
    let now = c.loop-place.self in
    let view = c.self-in-loop-place.view_is in
    let lt : c.loop-place.place < length now.nodes = omega (arith, c.loop-place-test.true, c.len.ensures.len, ap (λ (e : Encoding). length e.nodes) view) in
    let distinct : IsDistinct eqb now.nodes = subst (λ (e : Encoding). IsDistinct eqb e.nodes) view c.len.ensures.unique in
    let few : length now.nodes ≤ length c.args.self.now.nodes + length c.args.aig.now = bounded c.args.aig.now c.args.self.now now c.args.edge c.in_ok-literal.literal c.loop-place.place c.loop-place.invariant distinct in
    omega (arith, lt, few)

pub loop-place-preserved : goal.loop-place-preserved
loop-place-preserved c =
    let now = c.loop-place.self in
    let view = c.self-in-loop-place.view_is in
    let lt : c.loop-place.place < length now.nodes = omega (arith, c.loop-place-test.true, c.len.ensures.len, ap (λ (e : Encoding). length e.nodes) view) in
    let list : c.as_slice.result.now ≡ now.nodes = c.as_slice.ensures.keys ∙ ap (λ (e : Encoding). e.nodes) view in
    let here : slice_get now.nodes c.loop-place.place ≡ Some (get_or c.as_slice.result.now c.loop-place.place 0) = slice_get-get_or now.nodes c.loop-place.place 0 lt ∙ ap (λ xs. Some (get_or xs c.loop-place.place 0)) (sym list) in
    stepped c.args.aig.now c.args.self.now now c.add_node.new.self c.args.edge c.in_ok-literal.literal c.loop-place.place _ c.nodes.ensures.graph here lt c.loop-place.invariant c.in_ok-add_node.ensures.ok

pub returns-clause-encoding : goal.returns-clause-encoding
returns-clause-encoding c = λ before roots asserted is grown.
    let now = c.loop-place.self in
    let view = c.self-in-loop-place.view_is in
    let le : length now.nodes ≤ c.loop-place.place = omega (arith, c.loop-place-test.false, c.len.ensures.len, ap (λ (e : Encoding). length e.nodes) view) in
    let distinct : IsDistinct eqb now.nodes = subst (λ (e : Encoding). IsDistinct eqb e.nodes) view c.len.ensures.unique in
    encoded before c.args.aig.now grown roots asserted c.args.self.now now c.args.edge c.in_ok-literal.literal c.loop-place.place c.nodes.ensures.graph (distinct_apart now.nodes distinct) le c.loop-place.invariant is

pub returns-clause-literal : goal.returns-clause-literal
returns-clause-literal c =
    let now = c.loop-place.self in
    let p = c.loop-place.invariant in
    record { has = p.root; is = p.literal_is; within = subst (IsVarWithin (length now.nodes)) (sym p.literal_is) (literal_within now.nodes c.args.edge p.root) }

pub returns-clause-value : goal.returns-clause-value
returns-clause-value c = λ v has.
    let p = c.loop-place.invariant in
    literal_value c.args.aig.now c.loop-place.self.nodes v has c.args.edge c.in_ok-literal.literal p.root p.literal_is

pub returns-clause-constant : goal.returns-clause-constant
returns-clause-constant c = λ before roots asserted is grown zero_node v holds.
    let now = c.loop-place.self in
    let p = c.loop-place.invariant in
    let view = c.self-in-loop-place.view_is in
    let le : length now.nodes ≤ c.loop-place.place = omega (arith, c.loop-place-test.false, c.len.ensures.len, ap (λ (e : Encoding). length e.nodes) view) in
    let distinct : IsDistinct eqb now.nodes = subst (λ (e : Encoding). IsDistinct eqb e.nodes) view c.len.ensures.unique in
    let encoding = encoded before c.args.aig.now grown roots asserted c.args.self.now now c.args.edge c.in_ok-literal.literal c.loop-place.place c.nodes.ensures.graph (distinct_apart now.nodes distinct) le p is in
    constant_literal c.args.aig.now (roots ++ c.args.edge ∷ []) asserted now c.args.edge c.in_ok-literal.literal encoding p.root p.literal_is zero_node v holds

pub returns-clause-nodes : goal.returns-clause-nodes
returns-clause-nodes c =
    let p = c.loop-place.invariant in
    (p.done ++ p.waiting, p.nodes ∙ append_assoc c.args.self.now.nodes p.done p.waiting)

pub returns-clause-kept : goal.returns-clause-kept
returns-clause-kept c = λ k has.
    let p = c.loop-place.invariant in
    let old = c.args.self.now in
    ap (λ list. variable_of list k) (p.nodes ∙ append_assoc old.nodes p.done p.waiting) ∙ variable_stays old.nodes (p.done ++ p.waiting) k has

pub returns-in_err-literal-clause-err : goal.returns-in_err-literal-clause-err
returns-in_err-literal-clause-err c = if_err c.from_residual.result (front_same c.args.self.now c.literal.new.self c.in_err-literal.ensures.err)

pub returns-in_err-add_node-clause-err : goal.returns-in_err-add_node-clause-err
returns-in_err-add_node-clause-err c =
    if_err c.from_residual-in_err-add_node.result (front_join c.args.self.now c.loop-place.self c.add_node.new.self (front_progress c.args.aig.now c.args.self.now c.loop-place.self c.args.edge c.in_ok-literal.literal c.loop-place.place c.loop-place.invariant) c.in_err-add_node.ensures.err)
