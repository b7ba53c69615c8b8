-- Edges that stand for the nodes of a graph: as the graph grows, and as more becomes known.
use Rattle.std.proofs.Common.{◌≡◌, ℕ, Bool, ◌&&◌, List, [], ◌∷◌, ◌++◌, Some, set, inl, inr, sym, ◌∙◌, ap, subst, arith, length-append}
use Rattle.std.specs.List.{slice_get, All}
use Rattle.std.proofs.lemmas.List.Elements.{All-nil, All-cons}
use Rattle.eco_lists.proofs.Places.{set_cases, slice_get-append_left}
use Rattle.eco_aig.specs.declared.edge.Edge.{Edge}
use Rattle.eco_aig.specs.declared.node.Node.{Node}
use Rattle.eco_aig.specs.declared.node.Node.TheVariants.{And}
use Rattle.eco_aig.specs.Edges.{value_of}
use Rattle.eco_aig.specs.Graph.{IsEdge, HasValue, Grows, pair_at}
use Rattle.eco_aig.specs.Swept.{IsSwept, AreImages}
use Rattle.eco_aig.proofs.Growing.{valuation_of_older}
use Rattle.eco_aig.proofs.Conjunctions.{pair_at_node}

-- an edge keeps its value where more stands behind the graph
value_behind : (old added : List Node) (e : Edge) (bit : (ℕ → Bool) → Bool) → HasValue old e bit → HasValue (old ++ added) e bit
value_behind old added e bit has = record {
  within = (let lt = has.within in omega (arith, lt, length-append old added));
  value = λ w valuation. has.value w (record { fits = λ k node at. valuation.fits k node (slice_get-append_left old added k node at) });
}

-- what is known stays true where the graph grows, with new inputs too
pub swept_behind : (old added : List Node) (map : List Edge) → IsSwept old map → IsSwept (old ++ added) map
swept_behind old added map swept k e at = value_behind old added e (λ w. w k) (swept k e at)

pub swept_grows : (old new : List Node) (most : ℕ) (map : List Edge) → Grows old new most → IsSwept old map → IsSwept new map
swept_grows old new most map grows swept =
    subst (λ (nodes : List Node). IsSwept nodes map) (sym grows.behind) (swept_behind old grows.added map swept)

-- another edge stands for a node
pub swept_set : (nodes : List Node) (map : List Edge) (k : ℕ) (e : Edge) → IsSwept nodes map → HasValue nodes e (λ w. w k) → IsSwept nodes (set map k e)
swept_set nodes map k e swept has j x at = elim (set_cases map k e j x at) [
  | inl here ↦ record {
    within = subst (IsEdge nodes) (sym here.1) has.within;
    value = λ w valuation. ap (value_of w) here.1 ∙ has.value w valuation ∙ ap w (sym here.0);
  }
  | inr other ↦ swept j x other.1
]

-- the and-node stays where the graph grows
pub conjunction_stays : (old new : List Node) (most k : ℕ) (a b : Edge) → Grows old new most → pair_at old k ≡ Some (a, b) → slice_get new k ≡ Some (And a b)
conjunction_stays old new most k a b grows pair =
    ap (λ list. slice_get list k) grows.behind ∙ slice_get-append_left old grows.added k (And a b) (pair_at_node old k a b pair)

-- what stands for the conjunction of what stands for the operands has the node's value
pub conjunction_image : (old new : List Node) (most k : ℕ) (a b x y e r : Edge) → Grows old new most → pair_at old k ≡ Some (a, b) → HasValue old x (λ w. value_of w a) → HasValue old y (λ w. value_of w b) → HasValue new e (λ w. value_of w x && value_of w y) → HasValue new r (λ w. value_of w e) → HasValue new r (λ w. w k)
conjunction_image old new most k a b x y e r grows pair first second both image = record {
  within = image.within;
  value = λ w valuation.
      let before = valuation_of_older old new most w grows valuation in
      image.value w valuation ∙ both.value w valuation ∙ ap (λ p. p && value_of w y) (first.value w before) ∙ ap (λ p. value_of w a && p) (second.value w before) ∙ sym (valuation.fits k (And a b) (conjunction_stays old new most k a b grows pair));
}

-- images are edges of the graph
pub images_within : (nodes : List Node) (edges images : List Edge) → AreImages nodes edges images → All (IsEdge nodes) images
images_within nodes [] [] are = All-nil (IsEdge nodes)
images_within nodes [] (r ∷ images) are = absurd are
images_within nodes (e ∷ edges) [] are = absurd are
images_within nodes (e ∷ edges) (r ∷ images) are =
    All-cons (IsEdge nodes) r images are.0.within (images_within nodes edges images are.1)

-- images of images, of the graph that grew
pub images_join : (old new : List Node) (most : ℕ) (edges between images : List Edge) → Grows old new most → AreImages old edges between → AreImages new between images → AreImages new edges images
images_join old new most [] [] images grows first second = second
images_join old new most [] (m ∷ between) images grows first second = absurd first
images_join old new most (e ∷ edges) [] images grows first second = absurd first
images_join old new most (e ∷ edges) (m ∷ between) [] grows first second = absurd second
images_join old new most (e ∷ edges) (m ∷ between) (r ∷ images) grows first second = (
  record {
    within = second.0.within;
    value = λ w valuation. second.0.value w valuation ∙ first.0.value w (valuation_of_older old new most w grows valuation);
  },
  images_join old new most edges between images grows first.1 second.1,
)
