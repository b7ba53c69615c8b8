-- What stays where a graph grows: older nodes, their valuations, the values of older edges.
use Rattle.std.proofs.Common.{◌≡◌, ℕ, ◌+◌, ◌≤◌, Bool, List, [], ◌∷◌, ◌++◌, Some, length, get_or, refl, sym, ◌∙◌, ap, subst, arith, inl, inr, append_assoc, length-append}
use Rattle.std.specs.List.{slice_get, All}
use Rattle.std.proofs.lemmas.List.{append-nil}
use Rattle.eco_aig.specs.declared.edge.Edge.{Edge}
use Rattle.eco_aig.specs.declared.node.Node.{Node}
use Rattle.eco_aig.specs.declared.node.Node.TheVariants.{Zero, Input, And}
use Rattle.eco_aig.specs.Graph.{IsValuation, IsEdge, HasValue, Grows, IsGraph, AreOperands, inputs_of}
use Rattle.eco_lists.proofs.Places.{slice_get-append_left, push_cases}
use Rattle.eco_aig.proofs.Inputs.{inputs_of-and}

-- nothing is added, or one and-node
pub grows_none : (nodes : List Node) (most : ℕ) → Grows nodes nodes most
grows_none nodes most = record { added = []; behind = sym (append-nil nodes); few = omega arith; inputs = refl }

pub grows_same : (old new : List Node) (most : ℕ) → new ≡ old → Grows old new most
grows_same old new most e = subst (λ (list : List Node). Grows old list most) (sym e) (grows_none old most)

pub grows_and : (old new : List Node) (a b : Edge) → new ≡ old ++ And a b ∷ [] → Grows old new 1
grows_and old new a b e =
    record { added = And a b ∷ []; behind = e; few = omega arith; inputs = ap inputs_of e ∙ inputs_of-and old a b }

-- one growth behind another
pub grows_join : (old mid new : List Node) (m n : ℕ) → Grows old mid m → Grows mid new n → Grows old new (m + n)
grows_join old mid new m n first second = record {
  added = first.added ++ second.added;
  behind = second.behind ∙ ap (λ list. list ++ second.added) first.behind ∙ append_assoc old first.added second.added;
  few = omega (arith, first.few, second.few, length-append first.added second.added);
  inputs = second.inputs ∙ first.inputs;
}

pub grows_more : (old new : List Node) (m n : ℕ) → m ≤ n → Grows old new m → Grows old new n
grows_more old new m n le grows = record {
  added = grows.added;
  behind = grows.behind;
  few = omega (arith, grows.few, le);
  inputs = grows.inputs;
}

-- an older node stays
pub node_stays : (old new : List Node) (most : ℕ) → Grows old new most → (k : ℕ) (node : Node) → slice_get old k ≡ Some node → slice_get new k ≡ Some node
node_stays old new most grows k node at =
    ap (λ list. slice_get list k) grows.behind ∙ slice_get-append_left old grows.added k node at

-- an older edge is one of the larger graph
pub edge_stays : (old new : List Node) (most : ℕ) (e : Edge) → Grows old new most → IsEdge old e → IsEdge new e
edge_stays old new most e grows within =
    omega (arith, within, ap length grows.behind, length-append old grows.added)

pub edges_stay : (old new : List Node) (most : ℕ) (edges : List Edge) → Grows old new most → All (IsEdge old) edges → All (IsEdge new) edges
edges_stay old new most edges grows are k d lt = edge_stays old new most (get_or edges k d) grows (are k d lt)

-- a valuation of the larger graph is one of the smaller
pub valuation_of_older : (old new : List Node) (most : ℕ) (w : ℕ → Bool) → Grows old new most → IsValuation new w → IsValuation old w
valuation_of_older old new most w grows valuation =
    record { fits = λ k node at. valuation.fits k node (node_stays old new most grows k node at) }

-- an older edge keeps its value
pub value_stays : (old new : List Node) (most : ℕ) (e : Edge) (bit : (ℕ → Bool) → Bool) → Grows old new most → HasValue old e bit → HasValue new e bit
value_stays old new most e bit grows has = record {
  within = edge_stays old new most e grows has.within;
  value = λ w valuation. has.value w (valuation_of_older old new most w grows valuation);
}

-- the node may stand at this place
abbrev pub FitsPlace : ℕ → Node → Type 0
FitsPlace k Zero = ⊥
FitsPlace k (Input number) = number ≡ k
FitsPlace k (And a b) = AreOperands k a b

-- a new node that may stand behind the others leaves a graph
pub graph_push : (nodes : List Node) (x : Node) → IsGraph nodes → FitsPlace (length nodes) x → ((k : ℕ) → slice_get nodes k ≡ Some x → ⊥) → IsGraph (nodes ++ x ∷ [])
graph_push nodes x graph fits new = record {
  constant = slice_get-append_left nodes (x ∷ []) 0 Zero graph.constant;
  inputs = λ k number at. elim (push_cases nodes x k (Input number) at) [
    | inl old ↦ graph.inputs k number old
    | inr here ↦ (let f : FitsPlace (length nodes) (Input number) = subst (FitsPlace (length nodes)) (sym here.1) fits in f ∙ sym here.0)
  ];
  operands = λ k a b at. elim (push_cases nodes x k (And a b) at) [
    | inl old ↦ graph.operands k a b old
    | inr here ↦ (let f : FitsPlace (length nodes) (And a b) = subst (FitsPlace (length nodes)) (sym here.1) fits in subst (λ (n : ℕ). AreOperands n a b) (sym here.0) f)
  ];
  distinct = λ j k node at_j at_k. elim (push_cases nodes x j node at_j) [
    | inl old_j ↦ elim (push_cases nodes x k node at_k) [
      | inl old_k ↦ graph.distinct j k node old_j old_k
      | inr here_k ↦ absurd (new j (old_j ∙ ap Some here_k.1))
    ]
    | inr here_j ↦ elim (push_cases nodes x k node at_k) [
      | inl old_k ↦ absurd (new k (old_k ∙ ap Some here_j.1))
      | inr here_k ↦ here_j.0 ∙ sym here_k.0
    ]
  ];
}
