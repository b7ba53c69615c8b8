-- Each choice of bits for the inputs goes on to a valuation of the graph, and a valuation of a graph to one of each graph that
-- grows from it.
use Rattle.std.proofs.Common.{◌≡◌, ℕ, zero, suc, ◌<◌, ◌≤◌, inl, inr, Bool, false, ◌&&◌, cond, eqb, List, Option, Some, None, length, get_or, refl, sym, ◌∙◌, ap, subst, arith, eq-eqb, ne_eqb}
use Rattle.std.specs.List.{slice_get}
use Rattle.std.proofs.lemmas.Bool.{cases_eq}
use Rattle.std.proofs.lemmas.Option.{slice_get_within, slice_get-get_or}
use Rattle.eco_aig.specs.declared.node.Node.{Node}
use Rattle.eco_aig.specs.declared.node.Node.TheVariants.{Zero, Input, And}
use Rattle.eco_aig.specs.Edges.{value_of}
use Rattle.eco_aig.specs.Graph.{FitsNode, IsValuation, IsGraph, Grows}
use Rattle.eco_aig.proofs.Growing.{node_stays}
use Rattle.eco_aig.proofs.Filling.{operands_below, bit_agree, fits_agree}

-- the bit of a node where the nodes before it have these bits, and the given one at an input
bit_of : (ℕ → Bool) → Bool → Option Node → Bool
bit_of w input None = input
bit_of w input (Some Zero) = false
bit_of w input (Some (Input number)) = input
bit_of w input (Some (And a b)) = value_of w a && value_of w b

-- the bits of the first n nodes
filled : List Node → (ℕ → Bool) → ℕ → ℕ → Bool
filled graph base zero k = base k
filled graph base (suc n) k =
    cond (eqb k n) (bit_of (filled graph base n) (base n) (slice_get graph n)) (filled graph base n k)

filled_here : (graph : List Node) (base : ℕ → Bool) (n : ℕ) → filled graph base (suc n) n ≡ bit_of (filled graph base n) (base n) (slice_get graph n)
unfolding filled
filled_here graph base n =
    ap (λ c. cond c (bit_of (filled graph base n) (base n) (slice_get graph n)) (filled graph base n n)) (eq-eqb n n refl)

filled_other : (graph : List Node) (base : ℕ → Bool) (n k : ℕ) → (k ≡ n → ⊥) → filled graph base (suc n) k ≡ filled graph base n k
unfolding filled
filled_other graph base n k ne =
    ap (λ c. cond c (bit_of (filled graph base n) (base n) (slice_get graph n)) (filled graph base n k)) (ne_eqb k n ne)

bit_fits : (w : ℕ → Bool) (input : Bool) (node : Node) → FitsNode w node (bit_of w input (Some node))
unfolding bit_of
bit_fits w input Zero = refl
bit_fits w input (Input number) = tt
bit_fits w input (And a b) = refl

-- the bits of the first n nodes fit them, and the inputs have the given bits
record IsFilled (graph : List Node) (base : ℕ → Bool) (n : ℕ) (w : ℕ → Bool) : Type 0 where
  fits : (k : ℕ) (node : Node) → k < n → slice_get graph k ≡ Some node → FitsNode w node (w k)
  inputs : (k number : ℕ) → slice_get graph k ≡ Some (Input number) → w k ≡ base k

filled_is : (graph : List Node) (base : ℕ → Bool) → IsGraph graph → (n : ℕ) → IsFilled graph base n (filled graph base n)
unfolding filled bit_of
filled_is graph base is zero = record { fits = λ k node lt at. absurd (omega arith); inputs = λ k number at. refl }
filled_is graph base is (suc n) = step (filled_is graph base is n)
  where
    w : ℕ → Bool
    w = filled graph base n

    u : ℕ → Bool
    u = filled graph base (suc n)

    step : IsFilled graph base n w → IsFilled graph base (suc n) u
    step old = record {
      fits = λ k node lt at. elim (cases_eq k n) [
        | inl e ↦
            let here : u k ≡ bit_of w (base n) (Some node) = ap u e ∙ filled_here graph base n ∙ ap (bit_of w (base n)) (sym (ap (slice_get graph) e) ∙ at) in
            let agree : (j : ℕ) → j < k → w j ≡ u j = λ j below. sym (filled_other graph base n j (λ same. omega (arith, same, below, e))) in
            subst (FitsNode u node) (sym here) (fits_agree w u k node (bit_of w (base n) (Some node)) (operands_below graph k node is at) agree (bit_fits w (base n) node))
        | inr ne ↦
            let agree : (j : ℕ) → j ≤ k → w j ≡ u j = λ j below. sym (filled_other graph base n j (λ same. omega (arith, same, below, lt, ne))) in
            subst (FitsNode u node) (agree k (omega arith)) (fits_agree w u k node (w k) (operands_below graph k node is at) (λ j below. agree j (omega (arith, below))) (old.fits k node (omega (arith, lt, ne)) at))
      ];
      inputs = λ k number at. elim (cases_eq k n) [
        | inl e ↦ ap u e ∙ filled_here graph base n ∙ ap (bit_of w (base n)) (sym (ap (slice_get graph) e) ∙ at) ∙ ap base (sym e)
        | inr ne ↦ filled_other graph base n k ne ∙ old.inputs k number at
      ];
    }

-- a valuation with these bits at the inputs
pub valuation_with : (graph : List Node) (base : ℕ → Bool) → IsGraph graph → (w : ℕ → Bool) × IsValuation graph w × ((k number : ℕ) → slice_get graph k ≡ Some (Input number) → w k ≡ base k)
valuation_with graph base is =
    let whole = filled_is graph base is (length graph) in
    (filled graph base (length graph), record { fits = λ k node at. whole.fits k node (slice_get_within graph k node at) at }, whole.inputs)

-- a valuation of the larger graph that has the older one's bits at the older inputs has them at all older nodes
older_bits : (old new : List Node) (most : ℕ) (w u : ℕ → Bool) → IsGraph new → Grows old new most → IsValuation old w → IsValuation new u → ((k number : ℕ) → slice_get new k ≡ Some (Input number) → u k ≡ w k) → (n k : ℕ) → k < n → k < length old → u k ≡ w k
older_bits old new most w u graph grows is_old is_new inputs zero k lt within = absurd (omega arith)
older_bits old new most w u graph grows is_old is_new inputs (suc n) k lt within =
    by (λ j below. older_bits old new most w u graph grows is_old is_new inputs n j (omega (arith, lt, below)) (omega (arith, within, below))) (get_or old k Zero) (slice_get-get_or old k Zero within)
  where
    by : ((j : ℕ) → j < k → u j ≡ w j) → (node : Node) → slice_get old k ≡ Some node → u k ≡ w k
    by before Zero at = is_new.fits k Zero (node_stays old new most grows k Zero at) ∙ sym (is_old.fits k Zero at)
    by before (Input number) at = inputs k number (node_stays old new most grows k (Input number) at)
    by before (And a b) at =
        let there = node_stays old new most grows k (And a b) at in
        let is = graph.operands k a b there in
        let first : u a.node ≡ w a.node = before a.node (omega (arith, is.second, is.before)) in
        let second : u b.node ≡ w b.node = before b.node is.before in
        is_new.fits k (And a b) there ∙ ap (λ x. x && value_of u b) (bit_agree u w a first) ∙ ap (λ x. value_of w a && x) (bit_agree u w b second) ∙ sym (is_old.fits k (And a b) at)

-- a valuation of a graph goes on to each graph that grows from it
pub valuation_goes_on : (old new : List Node) (most : ℕ) (w : ℕ → Bool) → IsGraph new → Grows old new most → IsValuation old w → (u : ℕ → Bool) × IsValuation new u × ((k : ℕ) → k < length old → u k ≡ w k)
valuation_goes_on old new most w graph grows is =
    let whole = valuation_with new w graph in
    (whole.0, whole.1, λ k within. older_bits old new most w whole.0 graph grows is whole.1 whole.2 (suc k) k (omega arith) within)
