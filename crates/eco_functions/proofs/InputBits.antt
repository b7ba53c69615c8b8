-- A graph has a valuation with any bits of its inputs, and a node's bit depends on the inputs that it reaches.
use Rattle.std.proofs.Common.{◌≡◌, ℕ, zero, suc, ◌<◌, Bool, false, ◌&&◌, List, [], ◌∷◌, Some, length, get_or, map, refl, sym, ◌∙◌, ap, subst, arith}
use Rattle.std.specs.List.{slice_get, Contains}
use Rattle.std.specs.Option.{option_and_then}
use Rattle.std.proofs.lemmas.Option.{slice_get-get_or}
use Rattle.eco_lists.proofs.Members.{Contains_first, Contains_later}
use Rattle.eco_aig.specs.declared.node.Node.{Node}
use Rattle.eco_aig.specs.declared.node.Node.TheVariants.{Zero, Input, And}
use Rattle.eco_aig.specs.Edges.{value_of}
use Rattle.eco_aig.specs.Graph.{IsValuation, IsGraph, pair_of, inputs_of}
use Rattle.eco_aig.proofs.Filling.{bit_agree}
use Rattle.eco_aig.proofs.Inputs.{input_listed}
use Rattle.eco_aig.proofs.Valuations.{valuation_with}
use Rattle.eco_aig.specs.Reached.{both_of, operands_at, Reaches, next}

-- the bits at the places of the inputs
spread : List Node → List Bool → List Bool
spread [] bits = []
spread (Zero ∷ nodes) bits = false ∷ spread nodes bits
spread (And a b ∷ nodes) bits = false ∷ spread nodes bits
spread (Input number ∷ nodes) [] = false ∷ spread nodes []
spread (Input number ∷ nodes) (bit ∷ bits) = bit ∷ spread nodes bits

-- a map that has them there gives the inputs these bits
map_spread : (nodes : List Node) (bits : List Bool) (w : ℕ → Bool) → ((k number : ℕ) → slice_get nodes k ≡ Some (Input number) → w number ≡ get_or (spread nodes bits) k false) → length bits ≡ length (inputs_of nodes) → map w (inputs_of nodes) ≡ bits
unfolding spread
map_spread [] [] w has same = refl
map_spread [] (bit ∷ bits) w has same = absurd (omega (arith, same))
map_spread (Zero ∷ nodes) bits w has same = map_spread nodes bits w (λ k number at. has (suc k) number at) same
map_spread (And a b ∷ nodes) bits w has same = map_spread nodes bits w (λ k number at. has (suc k) number at) same
map_spread (Input number ∷ nodes) [] w has same = absurd (omega (arith, same))
map_spread (Input number ∷ nodes) (bit ∷ bits) w has same =
    let head : w number ≡ bit = has 0 number refl in
    let tail : map w (inputs_of nodes) ≡ bits = map_spread nodes bits w (λ k other at. has (suc k) other at) (omega (arith, same)) in
    ap (λ b. b ∷ map w (inputs_of nodes)) head ∙ ap (λ rest. bit ∷ rest) tail

-- a valuation with these bits at the inputs
pub valuation_at : (nodes : List Node) (bits : List Bool) → IsGraph nodes → length bits ≡ length (inputs_of nodes) → (w : ℕ → Bool) × IsValuation nodes w × (map w (inputs_of nodes) ≡ bits)
valuation_at nodes bits graph same =
    let found = valuation_with nodes (λ k. get_or (spread nodes bits) k false) graph in (
      found.0,
      found.1,
      map_spread nodes bits found.0 (λ k number at. ap found.0 (graph.inputs k number at) ∙ found.2 k number at) same,
    )

-- the bits of two maps at the inputs that a node reaches are the same
abbrev pub AgreeAtReached : List Node → (ℕ → Bool) → (ℕ → Bool) → ℕ → Type 0
AgreeAtReached nodes w u start = (number : ℕ) → Contains (inputs_of nodes) number → Reaches nodes start number → w number ≡ u number

-- then valuations have the same bits at all that it reaches
same_below : (nodes : List Node) (w u : ℕ → Bool) (start : ℕ) → IsGraph nodes → IsValuation nodes w → IsValuation nodes u → AgreeAtReached nodes w u start → (n k : ℕ) → k < n → k < length nodes → Reaches nodes start k → w k ≡ u k
same_below nodes w u start graph of_w of_u agree zero k lt within reaches = absurd (omega (arith, lt))
same_below nodes w u start graph of_w of_u agree (suc n) k lt within reaches =
    by (λ j less at. same_below nodes w u start graph of_w of_u agree n j (omega (arith, lt, less)) (omega (arith, within, less)) at)
    (get_or nodes k Zero) (slice_get-get_or nodes k Zero within)
  where
    by : ((j : ℕ) → j < k → Reaches nodes start j → w j ≡ u j) → (node : Node) → slice_get nodes k ≡ Some node → w k ≡ u k
    by before Zero at = of_w.fits k Zero at ∙ sym (of_u.fits k Zero at)
    by before (Input number) at =
        let is : number ≡ k = graph.inputs k number at in
        agree k (subst (Contains (inputs_of nodes)) is (input_listed nodes k number at)) reaches
    by before (And a b) at =
        let is = graph.operands k a b at in
        let operands : operands_at nodes k ≡ a ∷ b ∷ [] = ap (λ o. both_of (option_and_then pair_of o)) at in
        let has_a : Contains (operands_at nodes k) a = subst (λ l. Contains l a) (sym operands) (Contains_first a (b ∷ [])) in
        let has_b : Contains (operands_at nodes k) b = subst (λ l. Contains l b) (sym operands) (Contains_later a b (b ∷ []) (Contains_first b [])) in
        let first : w a.node ≡ u a.node = before a.node (omega (arith, is.second, is.before)) (next k a reaches has_a) in
        let second : w b.node ≡ u b.node = before b.node is.before (next k b reaches has_b) in
        of_w.fits k (And a b) at ∙ ap (λ x. x && value_of w b) (bit_agree w u a first) ∙ ap (λ x. value_of u a && x) (bit_agree w u b second) ∙ sym (of_u.fits k (And a b) at)

-- so each node that it reaches has one bit in both
pub same_at_reached : (nodes : List Node) (w u : ℕ → Bool) (start : ℕ) → IsGraph nodes → IsValuation nodes w → IsValuation nodes u → AgreeAtReached nodes w u start → (k : ℕ) → k < length nodes → Reaches nodes start k → w k ≡ u k
same_at_reached nodes w u start graph of_w of_u agree k within reaches =
    same_below nodes w u start graph of_w of_u agree (suc k) k (omega arith) within reaches
