-- How many variables all clauses have.
use Rattle.std.proofs.Common.{◌≡◌, ◌+◌, ◌*◌, ◌≤◌, Bool, true, false, not, cond, List, [], ◌∷◌, length, map, filter, refl, sym, ◌∙◌, ap, arith}
use Rattle.std.proofs.lemmas.List.{length-map, length-append}
use Rattle.std.proofs.lemmas.List.Elements.{filter-append}
use Rattle.eco_meaning.specs.Names.{has}
use Rattle.eco_meaning.specs.Circuit.{Circuit, names}
use Rattle.eco_netlist.specs.Netlists.{IsChecked}
use Rattle.eco_equality.specs.Numbering.{inner_nets, left_literal, right_literal}
use Rattle.eco_equality.specs.Equality.{with_both, equality_of, size}
use Rattle.eco_equality.proofs.Counts.{takes_both, vars_differences}

-- what passes a test and what doesn't are all elements together
split_count : {X : Type 0} (p : X → Bool) (xs : List X) → length (filter p xs) + length (filter (λ x. not (p x)) xs) ≡ length xs
split_count p [] = refl
split_count p (x ∷ xs) = by (p x) (split_count p xs)
  where
    by : (b : Bool) → length (filter p xs) + length (filter (λ x. not (p x)) xs) ≡ length xs → length (cond b (x ∷ filter p xs) (filter p xs)) + length (cond (not b) (x ∷ filter (λ x. not (p x)) xs) (filter (λ x. not (p x)) xs)) ≡ length (x ∷ xs)
    by true rest = omega (arith, rest)
    by false rest = omega (arith, rest)

-- inputs and other nets are no more than the nets, and outputs are no more
inputs_count : (n : Circuit) → IsChecked n → length n.inputs + length (inner_nets n) ≤ length (names n)
inputs_count n checked =
    let p = has n.inputs in
    let ports = split_count p n.ports in
    let wires = split_count p n.wires in
    let inner = ap length (filter-append (λ x. not (p x)) n.ports n.wires) in
    let joined = length-append (filter (λ x. not (p x)) n.ports) (filter (λ x. not (p x)) n.wires) in
    let all = length-append n.ports n.wires in
    let inputs = ap length checked.inputs in
    omega (arith, ports, wires, inner, joined, all, inputs)

outputs_count : (n : Circuit) → IsChecked n → length n.outputs ≤ length (names n)
outputs_count n checked =
    let ports = split_count (has n.outputs) n.ports in
    let all = length-append n.ports n.wires in
    let outputs = ap length checked.outputs in
    omega (arith, ports, all, outputs)

pub few_variables : (left right : Circuit) → IsChecked left → IsChecked right → (equality_of left right).vars ≤ 2 * (1 + size left + size right)
few_variables left right left_checked right_checked =
    let ones = length-map left.outputs (left_literal left) in
    let others = length-map left.outputs (right_literal left right) in
    let last = vars_differences (with_both left right) (map (left_literal left) left.outputs) (map (right_literal left right) left.outputs) (ones ∙ sym others) in
    let both = (takes_both left right).few in
    let left_nets = inputs_count left left_checked in
    let right_nets = inputs_count right right_checked in
    let outputs = outputs_count left left_checked in
    omega (arith, ones, last, both, left_nets, right_nets, outputs)
