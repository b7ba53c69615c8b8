-- The last function replaced: the roots without it, the graph that has grown, and the merging of all roots.
use Rattle.std.proofs.Common.{◌≡◌, ℕ, suc, ◌-◌, ◌<◌, ◌≤◌, ◌⊎◌, inl, inr, List, [], ◌∷◌, ◌++◌, Option, Some, length, map, take, refl, sym, ◌∙◌, ap, subst, arith}
use Rattle.std.specs.List.{slice_get, All}
use Rattle.std.specs.Option.{option_and_then}
use Rattle.std.proofs.lemmas.List.{length-take, take_all}
use Rattle.eco_lists.proofs.Places.{place_of, item_at, All_at, All_from_places, place_in_front, slice_get-front, take_at_more, pair_at as places_pair, pairs_from_places}
use Rattle.eco_trace.specs.declared.clause.Var.{Var}
use Rattle.eco_trace.specs.Split.{Split}
use Rattle.eco_aig.specs.declared.edge.Edge.{Edge}
use Rattle.eco_aig.specs.declared.node.Node.{Node}
use Rattle.eco_aig.specs.Graph.{IsGraph, IsEdge, Grows, pair_of, pair_at}
use Rattle.eco_aig.proofs.Growing.{valuation_of_older}
use Rattle.eco_merge.specs.Counting.{AreNoMore, IsGate, IsItem, gate, first, second}
use Rattle.eco_aig.specs.Reached.{Reaches, IsReached}
use Rattle.eco_functions.specs.Functions.{FunctionsValue, AreFunctions, IsInterpolant}
use Rattle.eco_functions.specs.Improving.{AreChosen, ReachNoMoreThan, first_of, without_last}
use Rattle.eco_functions.proofs.Reaching.{older_reach}

-- as many as there are
no_more_by : {X : Type 0} (P Q : X → Type 0) → ((x : X) → P x → Q x) → AreNoMore P Q
no_more_by P Q is = λ xs apart all. (xs, apart, All_from_places Q xs (λ k x at. is x (All_at P xs k x all at)), refl)

no_more_join : {X Y Z : Type 0} (P : X → Type 0) (Q : Y → Type 0) (R : Z → Type 0) → AreNoMore P Q → AreNoMore Q R → AreNoMore P R
no_more_join P Q R one two = λ xs apart all.
    let ys = one xs apart all in
    let zs = two ys.0 ys.1 ys.2 in
    let len_y = ys.3 in
    let len_z = zs.3 in
    (zs.0, zs.1, zs.2, len_z ∙ len_y)

pub reach_same : (nodes : List Node) (edges : List Edge) → ReachNoMoreThan nodes edges nodes edges
reach_same nodes edges = record {
  gates = no_more_by (IsGate nodes edges) (IsGate nodes edges) (λ k is. is);
  items = no_more_by (IsItem nodes edges) (IsItem nodes edges) (λ e is. is);
}

pub reach_join : (a b c : List Node) (x y z : List Edge) → ReachNoMoreThan a x b y → ReachNoMoreThan b y c z → ReachNoMoreThan a x c z
reach_join a b c x y z one two = record {
  gates = no_more_join (IsGate a x) (IsGate b y) (IsGate c z) one.gates two.gates;
  items = no_more_join (IsItem a x) (IsItem b y) (IsItem c z) one.items two.items;
}

-- in a graph that has grown, older edges reach what they reached
module _ (old new : List Node) (most : ℕ) (roots : List Edge) (graph : IsGraph old) (edges : All (IsEdge old) roots) (grows : Grows old new most) where
  reached_older : (k : ℕ) → IsReached new roots k → IsReached old roots k × (k < length old)
  reached_older k from =
      let at = place_of roots from.0 from.1 in
      let within : from.0.node < length old = All_at (IsEdge old) roots at.0 from.0 edges at.1 in
      let was = older_reach old grows.added from.0.node k graph within (subst (λ (list : List Node). Reaches list from.0.node k) grows.behind from.2) in
      ((from.0, from.1, was.0), was.1)

  pair_older : (k : ℕ) (a b : Edge) → k < length old → pair_at new k ≡ Some (a, b) → pair_at old k ≡ Some (a, b)
  pair_older k a b lt at =
      ap (λ (node : Option Node). option_and_then pair_of node) (sym (slice_get-front old grows.added k lt) ∙ ap (λ (list : List Node). slice_get list k) (sym grows.behind)) ∙ at

  gate_older : (k : ℕ) → IsGate new roots k → IsGate old roots k
  gate_older k is =
      let reached = reached_older k is.reached in
      let pair = is.conjunction in
      record {
        conjunction = record { first = pair.first; second = pair.second; operands = pair_older k pair.first pair.second reached.1 pair.operands };
        reached = reached.0;
      }

  item_older : (e : Edge) → IsItem new roots e → IsItem old roots e
  item_older _ (gate k g) = gate k (gate_older k g)
  item_older _ (first k a b at reached sign) =
      let was = reached_older k reached in
      first k a b (pair_older k a b was.1 at) was.0 sign
  item_older _ (second k a b at reached sign) =
      let was = reached_older k reached in
      second k a b (pair_older k a b was.1 at) was.0 sign

  pub reach_older : ReachNoMoreThan new roots old roots
  reach_older = record {
    gates = no_more_by (IsGate new roots) (IsGate old roots) gate_older;
    items = no_more_by (IsItem new roots) (IsItem old roots) item_older;
  }

-- a list and its last element
last_apart : {X : Type 0} (xs : List X) → 1 ≤ length xs → (x : X) × (slice_get xs (length xs - 1) ≡ Some x) × (xs ≡ without_last xs ++ x ∷ [])
last_apart {X} xs some =
    let n = length xs - 1 in
    let found = item_at xs n (omega (arith, some)) in (
      found.0,
      found.1,
      sym (take_all (suc n) xs (omega (arith, some))) ∙ take_at_more xs n found.0 found.1,
    )

-- the chosen roots are the first ones and one more: the edge, or the root that was the last
pub chosen_apart : (nodes : List Node) (roots : List Edge) (edge : Edge) (chosen : List Edge) → 1 ≤ length roots → AreChosen nodes roots edge chosen → (e : Edge) × (chosen ≡ without_last roots ++ e ∷ []) × ((e ≡ edge) ⊎ (slice_get roots (length roots - 1) ≡ Some e))
chosen_apart nodes roots edge chosen some are =
    elim are.last [
      | inl kept ↦ (let last = last_apart roots some in (last.0, kept ∙ last.2, inr last.1))
      | inr replaced ↦ (edge, replaced, inl refl)
    ]

-- the functions without the last one are functions
pub first_functions : (functions : FunctionsValue) → AreFunctions functions → AreFunctions (first_of functions)
first_functions functions are =
    let n = length functions.roots - 1 in
    let m = length functions.counts - 1 in
    record {
      graph = are.graph;
      inputs = are.inputs;
      edges = All_from_places (IsEdge functions.nodes) (take n functions.roots) (λ k e at. All_at (IsEdge functions.nodes) functions.roots k e are.edges (place_in_front n functions.roots k e at).1);
      count = omega (arith, are.count, length-take n functions.roots, length-take m functions.counts);
      rising = pairs_from_places (λ x y. x ≤ y) (take m functions.counts) (λ i j x y lt at_i at_j.
          places_pair (λ x y. x ≤ y) functions.counts i j x y are.rising lt (place_in_front m functions.counts i x at_i).1 (place_in_front m functions.counts j y at_j).1);
      within = All_from_places (λ (c : ℕ). c ≤ length functions.base) (take m functions.counts) (λ k c at. All_at (λ (x : ℕ). x ≤ length functions.base) functions.counts k c are.within (place_in_front m functions.counts k c at).1);
      reach = λ k count root place node at_root at_count at_place reaches.
          are.reach k count root place node (place_in_front n functions.roots k root at_root).1 (place_in_front m functions.counts k count at_count).1 at_place reaches;
    }

-- a function that stands between two parts stands there in a graph that has grown
pub interpolant_stays : (split : Split) (shared : List Var) (old new : List Node) (most : ℕ) (e : Edge) → Grows old new most → IsInterpolant split shared old e → IsInterpolant split shared new e
interpolant_stays split shared old new most e grows stands = λ part u v valuation model reads.
    stands part u v (valuation_of_older old new most u grows valuation) model (reads ∙ ap (map u) grows.inputs)
