-- How many variables gates and differences take.
use Rattle.std.proofs.Common.{◌≡◌, ℕ, ◌+◌, List, [], ◌∷◌, length, map, arith}
use Rattle.std.proofs.lemmas.List.{length-map}
use Rattle.eco_meaning.specs.Circuit.{Circuit, NamedGate}
use Rattle.eco_trace.specs.declared.clause.Lit.{Lit}
use Rattle.eco_trace.specs.Clauses.{Clauses}
use Rattle.eco_clauses.specs.Gates.{with_xor, operand_literal, with_gate, with_gates}
use Rattle.eco_clauses.proofs.Counts.{TakesUpTo, takes_kind}
use Rattle.eco_equality.specs.Numbering.{left_literal, right_literal}
use Rattle.eco_equality.specs.Equality.{with_nets, with_both, with_differences, term_count}

pub takes_gates : (literal : List ℕ → Lit) (c : Clauses) (gates : List NamedGate) → TakesUpTo (term_count gates) c (with_gates literal c gates)
takes_gates literal c [] = record { more = omega arith; few = omega arith }
takes_gates literal c (g ∷ gates) =
    let first = takes_kind c g.kind (literal g.out) (map (operand_literal literal) g.terms) in
    let rest = takes_gates literal (with_gate literal c g) gates in
    let same = length-map g.terms (operand_literal literal) in
    let first_more = first.more in
    let first_few = first.few in
    let more = rest.more in
    let few = rest.few in
    record { more = omega (arith, first_more, more); few = omega (arith, same, first_few, few) }

-- one for each pair
pub takes_differences : (c : Clauses) (ones others : List Lit) → TakesUpTo (length ones) c (with_differences c ones others)
takes_differences c [] others = record { more = omega arith; few = omega arith }
takes_differences c (one ∷ ones) [] = record { more = omega arith; few = omega arith }
takes_differences c (one ∷ ones) (other ∷ others) =
    let rest = takes_differences (with_xor c one other) ones others in
    let more = rest.more in
    let few = rest.few in
    record { more = omega (arith, more); few = omega (arith, few) }

-- exactly one for each pair, where the lists are as long as each other
pub vars_differences : (c : Clauses) (ones others : List Lit) → length ones ≡ length others → (with_differences c ones others).vars ≡ c.vars + length ones
vars_differences c [] others e = omega arith
vars_differences c (one ∷ ones) [] e = absurd (omega (arith, e))
vars_differences c (one ∷ ones) (other ∷ others) e =
    let rest = vars_differences (with_xor c one other) ones others (omega (arith, e)) in
    omega (arith, rest)

-- the netlists' clauses have the variables of the nets at least, and few more
pub takes_both : (left right : Circuit) → TakesUpTo (term_count left.gates + term_count right.gates) (with_nets left right) (with_both left right)
takes_both left right =
    let first = takes_gates (left_literal left) (with_nets left right) left.gates in
    let second = takes_gates (right_literal left right) (with_gates (left_literal left) (with_nets left right) left.gates) right.gates in
    let first_more = first.more in
    let first_few = first.few in
    let more = second.more in
    let few = second.few in
    record { more = omega (arith, first_more, more); few = omega (arith, first_few, few) }
