-- Exclusive disjunctions: their operands, and their bits.
use Rattle.std.proofs.Common.{◌≡◌, ℕ, Bool, true, not, ◌&&◌, cond, List, Some, sym, ◌∙◌, ap}
use Rattle.std.proofs.lemmas.Option.{same_Some, slice_get_within}
use Rattle.eco_aig.specs.declared.edge.Edge.{Edge}
use Rattle.eco_aig.specs.declared.node.Node.{Node}
use Rattle.eco_aig.specs.declared.node.Node.TheVariants.{And}
use Rattle.eco_lists.specs.Bits.{exactly_one}
use Rattle.eco_aig.specs.Edges.{plain, complement, value_of}
use Rattle.eco_aig.specs.Graph.{IsValuation, IsEdge, HasValue, IsGraph, pair_at}
use Rattle.eco_aig.specs.Exclusive.{IsExclusive}
use Rattle.eco_aig.proofs.Conjunctions.{pair_at_node, operands_within, value_of-complement, neither_bit}

-- an and-node has one pair of operands
pub one_pair : (nodes : List Node) (k : ℕ) (a b x y : Edge) → pair_at nodes k ≡ Some (a, b) → pair_at nodes k ≡ Some (x, y) → (a ≡ x) × (b ≡ y)
one_pair nodes k a b x y first second = let same : (a, b) ≡ (x, y) = same_Some (a, b) (x, y) (sym first ∙ second) in (ap (λ p. p.0) same, ap (λ p. p.1) same)

-- the node of an exclusive disjunction is that of two edges alone
pub one_exclusive : (nodes : List Node) (node : ℕ) (a b x y : Edge) → IsExclusive nodes node a b → IsExclusive nodes node x y → (a ≡ x) × (b ≡ y)
one_exclusive nodes node a b x y first second =
    let same = (one_pair nodes node first.both first.neither second.both second.neither first.operands second.operands).0 in
    one_pair nodes second.both.node a b x y (sym (ap (λ (e : Edge). pair_at nodes e.node) same) ∙ first.of_both) second.of_both

-- the bit of an and-node
pub pair_bit : (nodes : List Node) (k : ℕ) (a b : Edge) → pair_at nodes k ≡ Some (a, b) → (u : ℕ → Bool) → IsValuation nodes u → u k ≡ (value_of u a && value_of u b)
pair_bit nodes k a b at u valuation = valuation.fits k (And a b) (pair_at_node nodes k a b at)

-- the bit of an edge by its sign
pub signed_bit : (u : ℕ → Bool) (e : Edge) (sign : Bool) → e.complemented ≡ sign → value_of u e ≡ cond sign (not (u e.node)) (u e.node)
signed_bit u e sign is = ap (λ c. cond c (not (u e.node)) (u e.node)) is

-- the bit of the node of an exclusive disjunction
pub exclusive_bit : (nodes : List Node) (node : ℕ) (x y : Edge) → IsExclusive nodes node x y → (u : ℕ → Bool) → IsValuation nodes u → u node ≡ exactly_one (value_of u x) (value_of u y)
exclusive_bit nodes node x y made u valuation =
    let both : value_of u made.both ≡ not (value_of u x && value_of u y) = signed_bit u made.both true made.not_both ∙ ap not (pair_bit nodes made.both.node x y made.of_both u valuation) in
    let neither : value_of u made.neither ≡ not (not (value_of u x) && not (value_of u y)) =
    signed_bit u made.neither true made.not_neither ∙ ap not (pair_bit nodes made.neither.node (complement x) (complement y) made.of_neither u valuation
    ∙ ap (λ z. z && value_of u (complement y)) (value_of-complement u x) ∙ ap (λ z. not (value_of u x) && z) (value_of-complement u y)) in
    pair_bit nodes node made.both made.neither made.operands u valuation ∙ ap (λ z. z && value_of u made.neither) both ∙ ap (λ z. not (value_of u x && value_of u y) && z) neither ∙ neither_bit (value_of u x) (value_of u y)

pub exclusive_value : (nodes : List Node) (node : ℕ) (x y : Edge) → IsExclusive nodes node x y → HasValue nodes (plain node) (λ w. exactly_one (value_of w x) (value_of w y))
exclusive_value nodes node x y made = record {
  within = slice_get_within nodes node (And made.both made.neither) (pair_at_node nodes node made.both made.neither made.operands);
  value = exclusive_bit nodes node x y made;
}

-- its edges are edges of the graph
pub exclusive_within : (nodes : List Node) (node : ℕ) (x y : Edge) → IsGraph nodes → IsExclusive nodes node x y → IsEdge nodes x × IsEdge nodes y
exclusive_within nodes node x y graph made = operands_within nodes made.both.node x y graph made.of_both
