-- What alike nodes have in common.
use Rattle.std.proofs.Common.{◌≡◌, ◌≢◌, ℕ, zero, suc, ◌<◌, Bool, true, false, not, cond, List, Some, length, refl, sym, ◌∙◌, ap}
use Rattle.eco_aig.specs.declared.node.Node.{Node}
use Rattle.eco_aig.specs.Graph.{IsGraph, IsValuation, HasValue}
use Rattle.eco_aig.proofs.Conjunctions.{constant_bit}
use Rattle.eco_merge.specs.Alike.{IsAlike, bit_of, turned, other_of}

-- turned twice is as it was
turned_back : (same a b : Bool) → a ≡ turned same b → b ≡ turned same a
turned_back true a b e = sym e
turned_back false a true e = sym (ap not e)
turned_back false a false e = sym (ap not e)

-- alike is alike in the other order
pub alike_flip : (nodes : List Node) (n m : ℕ) (same : Bool) → IsAlike nodes n (Some m) same → IsAlike nodes m (Some n) same
alike_flip nodes n m same is =
    record { bits = λ w valuation. turned_back same (w n) (w m) (is.bits w valuation) }

-- the bit of the other node is that of the node itself, also of the constant
pub other_bit : (nodes : List Node) (w : ℕ → Bool) (m : ℕ) → IsGraph nodes → IsValuation nodes w → bit_of w (other_of m) ≡ w m
other_bit nodes w zero graph valuation = sym (constant_bit nodes w graph valuation)
other_bit nodes w (suc m) graph valuation = refl

-- a node but the constant is another one
pub other_some : (m : ℕ) → m ≢ 0 → other_of m ≡ Some m
other_some zero ne = absurd (ne refl)
other_some (suc m) ne = refl

turned_sign : (same b : Bool) → cond (not same) (not b) b ≡ turned same b
turned_sign true b = refl
turned_sign false b = refl

-- an edge to an alike node has the node's value
pub alike_value : (nodes : List Node) (n m : ℕ) (same : Bool) → IsGraph nodes → m < length nodes → IsAlike nodes n (other_of m) same → HasValue nodes (record { node = m; complemented = not same }) (λ w. w n)
alike_value nodes n m same graph within is = record {
  within = within;
  value = λ w valuation. turned_sign same (w m) ∙ ap (turned same) (sym (other_bit nodes w m graph valuation)) ∙ sym (is.bits w valuation);
}
