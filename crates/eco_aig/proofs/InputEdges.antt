-- Graphs of inputs, and the edges to the inputs in what grows from them.
use Rattle.std.proofs.Common.{◌≡◌, ℕ, ◌+◌, ◌-◌, ◌<◌, Bool, false, List, [], ◌∷◌, ◌++◌, Some, length, get_or, map, refl, sym, ◌∙◌, ap, subst, arith, inl, inr, length-append}
use Rattle.std.specs.Prelude.{option_map}
use Rattle.std.specs.List.{slice_get, Contains}
use Rattle.std.proofs.lemmas.List.{length-map, map-append}
use Rattle.std.proofs.lemmas.Option.{slice_get-get_or, slice_get_within, slice_get-map}
use Rattle.eco_lists.proofs.Members.{Contains-map}
use Rattle.eco_lists.proofs.Places.{Contains_at, All_at, All_from_places, map_agree, push_cases, same_by_places, item_at}
use Rattle.eco_aig.specs.declared.edge.Edge.{Edge}
use Rattle.eco_aig.specs.declared.node.Node.{Node}
use Rattle.eco_aig.specs.declared.node.Node.TheVariants.{Zero, Input}
use Rattle.eco_aig.specs.Edges.{value_of, plain, bits_of}
use Rattle.eco_aig.specs.Graph.{IsGraph, IsEdge, inputs_of}
use Rattle.eco_aig.proofs.Inputs.{inputs_of-input, listed_input}
use Rattle.eco_aig.proofs.Filling.{bit_agree}
use Rattle.eco_aig.proofs.Valuations.{valuation_with, valuation_goes_on}
use Rattle.eco_aig.proofs.Growing.{edges_stay}
use Rattle.eco_aig.specs.Inputs.{AreInputs, InputsStay}

-- the constant and these inputs: the edge at place k is the plain one to node k + 1
pub record IsOfInputs (nodes : List Node) (edges : List Edge) : Type 0 where
  pub count : length nodes ≡ 1 + length edges
  pub all : inputs_of nodes ≡ map (λ e. e.node) edges
  pub plainly : (k : ℕ) (e : Edge) → slice_get edges k ≡ Some e → e ≡ plain (1 + k)

pub no_inputs : (nodes : List Node) (edges : List Edge) → nodes ≡ Zero ∷ [] → edges ≡ [] → IsOfInputs nodes edges
no_inputs nodes edges only none = subst (λ list. IsOfInputs list edges) (sym only) (subst (IsOfInputs (Zero ∷ [])) (sym none) start)
  where
    start : IsOfInputs (Zero ∷ []) []
    start = record { count = refl; all = refl; plainly = λ k e at. absurd (omega (arith, slice_get_within [] k e at)) }

pub input_more : (nodes new : List Node) (edges more : List Edge) (e : Edge) → IsOfInputs nodes edges → e ≡ plain (length nodes) → new ≡ nodes ++ Input (length nodes) ∷ [] → more ≡ edges ++ e ∷ [] → IsOfInputs new more
input_more nodes new edges more e is edge added pushed = record {
  count = ap length added ∙ length-append nodes (Input (length nodes) ∷ []) ∙ omega (arith, is.count, ap length pushed, length-append edges (e ∷ []));
  all = ap inputs_of added ∙ inputs_of-input nodes (length nodes) ∙ ap (λ list. list ++ length nodes ∷ []) is.all
      ∙ ap (λ (n : ℕ). map (λ (e : Edge). e.node) edges ++ n ∷ []) (sym (ap (λ (e : Edge). e.node) edge))
      ∙ sym (ap (map (λ (e : Edge). e.node)) pushed ∙ map-append (λ (e : Edge). e.node) edges (e ∷ []));
  plainly = λ k other at. elim (push_cases edges e k other (ap (λ (list : List Edge). slice_get list k) (sym pushed) ∙ at)) [
    | inl old ↦ is.plainly k other old
    | inr here ↦ here.1 ∙ edge ∙ ap plain (is.count ∙ ap (λ n. 1 + n) (sym here.0))
  ];
}

-- an image is the list that has the image of each element at its place
map_from_places : {X Y : Type 0} (f : X → Y) (xs : List X) (ys : List Y) → length xs ≡ length ys → ((k : ℕ) (x : X) → slice_get xs k ≡ Some x → slice_get ys k ≡ Some (f x)) → map f xs ≡ ys
map_from_places f xs ys len each =
    same_by_places (map f xs) ys (length-map xs f ∙ len) (λ k lt.
    let item = item_at xs k (subst (λ (n : ℕ). k < n) (length-map xs f) lt) in
    slice_get-map f xs k ∙ ap (option_map f) item.1 ∙ sym (each k item.0 item.1))

place_of_node : (k : ℕ) (e : Edge) → e ≡ plain (1 + k) → e.node - 1 ≡ k
place_of_node k e edge = let node : e.node ≡ 1 + k = ap (λ (e : Edge). e.node) edge in omega (arith, node)

-- the node of such an edge is an input's
input_at : (nodes : List Node) (edges : List Edge) (k : ℕ) (e : Edge) → IsGraph nodes → inputs_of nodes ≡ map (λ e. e.node) edges → slice_get edges k ≡ Some e → slice_get nodes e.node ≡ Some (Input e.node)
input_at nodes edges k e graph all at =
    listed_input nodes e.node graph (subst (λ list. Contains list e.node) (sym all) (Contains-map (λ (e : Edge). e.node) edges e (Contains_at edges k e at)))

pub inputs_are : (nodes : List Node) (edges : List Edge) → IsGraph nodes → IsOfInputs nodes edges → AreInputs nodes edges
inputs_are nodes edges graph is = record {
  within = All_from_places (IsEdge nodes) edges (λ k e at.
      let node : e.node ≡ 1 + k = ap (λ (e : Edge). e.node) (is.plainly k e at) in
      omega (arith, node, slice_get_within edges k e at, is.count));
  all = is.all;
  free = λ bits count.
      let found = valuation_with nodes (λ node. get_or bits (node - 1) false) graph in
      let w = found.0 in (
        w,
        found.1,
        map_from_places (value_of w) edges bits (sym count) (λ k e at.
            let bit : w e.node ≡ get_or bits (e.node - 1) false = found.2 e.node e.node (input_at nodes edges k e graph is.all at) in
            let edge : e ≡ plain (1 + k) = is.plainly k e at in
            let lt : k < length bits = (let within = slice_get_within edges k e at in omega (arith, within, count)) in
            slice_get-get_or bits k false lt ∙ ap (λ (b : Bool). Some b) (sym (ap (value_of w) edge ∙ ap w (sym (ap (λ (e : Edge). e.node) edge)) ∙ bit ∙ ap (λ (n : ℕ). get_or bits n false) (place_of_node k e edge)))),
      );
}

pub inputs_stay : InputsStay
inputs_stay old new most edges graph grows are = record {
  within = edges_stay old new most edges grows are.within;
  all = grows.inputs ∙ are.all;
  free = λ bits count.
      let found = are.free bits count in
      let w = found.0 in
      let more = valuation_goes_on old new most w graph grows found.1 in
      let u = more.0 in
      let same : bits_of u edges ≡ bits_of w edges = map_agree (value_of u) (value_of w) edges (λ k e at. bit_agree u w e (more.2 e.node (All_at (IsEdge old) edges k e are.within at))) in
      (u, more.1, same ∙ found.2);
}
