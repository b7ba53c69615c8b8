-- Images of nodes in another graph: what one more leaves, and that they are grafts.
use Rattle.std.proofs.Common.{◌≡◌, ℕ, ◌+◌, ◌<◌, ◌≤◌, inl, inr, Bool, true, false, not, ◌&&◌, cond, List, Option, Some, None, length, get_or, set, take, map, refl, sym, ◌∙◌, ap, subst, arith, length-set}
use Rattle.std.specs.List.{slice_get, Contains}
use Rattle.std.specs.Prelude.{replicate}
use Rattle.std.proofs.lemmas.Bool.{cases_eq}
use Rattle.std.proofs.lemmas.Option.{none-some, slice_get-get_or, slice_get_within, get_or_from_slice_get}
use Rattle.std.proofs.lemmas.List.{take_more, take_all, get_or-map, get_or-replicate, length-replicate}
use Rattle.std.proofs.lemmas.List.Elements.{Contains-push_cases}
use Rattle.eco_lists.proofs.Members.{Contains_none}
use Rattle.eco_lists.proofs.Places.{slice_get-set_same, slice_get-set_other, Contains_at}
use Rattle.eco_aig.specs.declared.edge.Edge.{Edge}
use Rattle.eco_aig.specs.declared.node.Node.{Node}
use Rattle.eco_aig.specs.declared.node.Node.TheVariants.{Zero, Input, And}
use Rattle.eco_aig.specs.Edges.{value_of, plain, complement}
use Rattle.std.specs.Option.{option_and_then}
use Rattle.eco_aig.specs.Graph.{IsEdge, IsGraph, HasValue, Grows, inputs_of, pair_at, pair_of}
use Rattle.eco_aig.proofs.Conjunctions.{constant_bit, pair_at_node, value_of-complement}
use Rattle.eco_aig.proofs.Growing.{edge_stays, valuation_of_older}
use Rattle.eco_aig.proofs.Inputs.{input_listed, listed_input}
use Rattle.eco_functions.specs.Grafts.{IsGraft, HasImage, AreImages, image_of}

-- ---- images of single nodes
-- an image stays where the graph grows
graft_stays : (old new from : List Node) (most : ℕ) (root e : Edge) → Grows old new most → IsGraft old from root e → IsGraft new from root e
graft_stays old new from most root e grows graft = record {
  within = edge_stays old new most e grows graft.within;
  value = λ u w val_u val_w same.
      graft.value u w (valuation_of_older old new most u grows val_u) val_w (ap (map u) (sym grows.inputs) ∙ same);
}

image_stays : (old new from : List Node) (most : ℕ) (images : List Edge) (k : ℕ) → Grows old new most → HasImage old from images k → HasImage new from images k
image_stays old new from most images k grows has = record { image = has.image; at = has.at; graft = graft_stays old new from most (plain k) has.image grows has.graft }

-- a new image leaves the others
image_set : (nodes from : List Node) (images : List Edge) (j k : ℕ) (e : Edge) → j < length images → IsGraft nodes from (plain j) e → HasImage nodes from images k → HasImage nodes from (set images j e) k
image_set nodes from images j k e lt graft has = elim (cases_eq k j) [
  | inl same ↦ record { image = e; at = ap (slice_get (set images j e)) same ∙ slice_get-set_same images j e lt; graft = subst (λ i. IsGraft nodes from (plain i) e) (sym same) graft }
  | inr other ↦ record { image = has.image; at = slice_get-set_other images j k e other ∙ has.at; graft = has.graft }
]

image_here : (nodes from : List Node) (images : List Edge) (j : ℕ) (e : Edge) → j < length images → IsGraft nodes from (plain j) e → HasImage nodes from (set images j e) j
image_here nodes from images j e lt graft = record { image = e; at = slice_get-set_same images j e lt; graft = graft }

-- the image of an edge
sign_graft : (nodes from : List Node) (e x : Edge) (sign : Bool) → e.complemented ≡ sign → IsGraft nodes from (plain e.node) x → IsGraft nodes from e (cond sign (complement x) x)
sign_graft nodes from e x false sign graft = record {
  within = graft.within;
  value = λ u w val_u val_w same. graft.value u w val_u val_w same ∙ sym (ap (λ c. cond c (not (w e.node)) (w e.node)) sign);
}
sign_graft nodes from e x true sign graft = record {
  within = graft.within;
  value = λ u w val_u val_w same.
      value_of-complement u x ∙ ap not (graft.value u w val_u val_w same) ∙ sym (ap (λ c. cond c (not (w e.node)) (w e.node)) sign);
}

pub edge_graft : (nodes from : List Node) (images : List Edge) (e : Edge) → HasImage nodes from images e.node → IsGraft nodes from e (image_of images e)
edge_graft nodes from images e has =
    sign_graft nodes from e (get_or images e.node (plain 0)) e.complemented refl
    (subst (IsGraft nodes from (plain e.node)) (sym (get_or_from_slice_get images e.node has.image (plain 0) has.at)) has.graft)

-- ---- and-nodes
-- the conjunction of the operands' images is an image of the node
and_graft : (old new from : List Node) (most : ℕ) (k : ℕ) (a b x y e : Edge) → Grows old new most → pair_at from k ≡ Some (a, b) → IsGraft old from a x → IsGraft old from b y → HasValue new e (λ u. value_of u x && value_of u y) → IsGraft new from (plain k) e
and_graft old new from most k a b x y e grows at first second has = record {
  within = has.within;
  value = λ u w val_u val_w same.
      has.value u val_u
      ∙ ap (λ p. p && value_of u y) ((graft_stays old new from most a x grows first).value u w val_u val_w same)
      ∙ ap (λ p. value_of w a && p) ((graft_stays old new from most b y grows second).value u w val_u val_w same)
      ∙ sym (val_w.fits k (And a b) (pair_at_node from k a b at));
}

-- the operands of an and-node stand before it
operands_before : (from : List Node) (k : ℕ) (a b : Edge) → IsGraph from → pair_at from k ≡ Some (a, b) → (a.node < k) × (b.node < k)
operands_before from k a b graph at =
    let are = graph.operands k a b (pair_at_node from k a b at) in
    (omega (arith, are.second, are.before), are.before)

-- the images of the operands are grafts of them
pub first_graft : (nodes from : List Node) (k : ℕ) (images list : List Edge) (a b x : Edge) → IsGraph from → AreImages nodes from k images → pair_at from k ≡ Some (a, b) → list ≡ images → x ≡ image_of list a → IsGraft nodes from a x
first_graft nodes from k images list a b x graph are at same is =
    subst (IsGraft nodes from a) (sym (is ∙ ap (λ l. image_of l a) same)) (edge_graft nodes from images a (are.before a.node (operands_before from k a b graph at).0))

pub second_graft : (nodes from : List Node) (k : ℕ) (images list : List Edge) (a b y : Edge) → IsGraph from → AreImages nodes from k images → pair_at from k ≡ Some (a, b) → list ≡ images → y ≡ image_of list b → IsGraft nodes from b y
second_graft nodes from k images list a b y graph are at same is =
    subst (IsGraft nodes from b) (sym (is ∙ ap (λ l. image_of l b) same)) (edge_graft nodes from images b (are.before b.node (operands_before from k a b graph at).1))

-- one more and-node
pub images_more : (old new from : List Node) (k : ℕ) (images : List Edge) (a b x y e : Edge) → k < length from → Grows old new 1 → AreImages old from k images → pair_at from k ≡ Some (a, b) → IsGraft old from a x → IsGraft old from b y → HasValue new e (λ u. value_of u x && value_of u y) → AreImages new from (k + 1) (set images k e)
images_more old new from k images a b x y e lt grows are at first second has =
    let graft : IsGraft new from (plain k) e = and_graft old new from 1 k a b x y e grows at first second has in
    let room : k < length images = omega (arith, lt, are.count) in
    record {
      count = length-set images k e ∙ are.count;
      leaves = λ j within none. image_set new from images k j e room graft (image_stays old new from 1 images j grows (are.leaves j within none));
      before = λ j earlier. elim (cases_eq j k) [
        | inl same ↦ subst (HasImage new from (set images k e)) (sym same) (image_here new from images k e room graft)
        | inr other ↦ image_set new from images k j e room graft (image_stays old new from 1 images j grows (are.before j (omega (arith, earlier, other))))
      ];
    }

-- the image of the root
pub root_graft : (nodes from : List Node) (done : ℕ) (images list : List Edge) (root e : Edge) → AreImages nodes from done images → length from ≤ done → IsEdge from root → list ≡ images → e ≡ image_of list root → IsGraft nodes from root e
root_graft nodes from done images list root e are le within same is =
    subst (IsGraft nodes from root) (sym (is ∙ ap (λ l. image_of l root) same)) (edge_graft nodes from images root (are.before root.node (omega (arith, le, within))))

-- ---- leaves
-- the table has images of the constant and of the first inputs
pub record AreLeaves (nodes from : List Node) (place : ℕ) (images : List Edge) : Type 0 where
  pub count : length images ≡ length from
  pub constant : HasImage nodes from images 0
  pub inputs : (k : ℕ) → Contains (take place (inputs_of from)) k → HasImage nodes from images k

pub leaves_none : (nodes from : List Node) → IsGraph nodes → IsGraph from → AreLeaves nodes from 0 (replicate (length from) (plain 0))
leaves_none nodes from graph other =
    let lt : 0 < length from = slice_get_within from 0 Zero other.constant in
    let len : length (replicate (length from) (plain 0)) ≡ length from = length-replicate (length from) (plain 0) in
    record {
      count = len;
      constant = record {
        image = plain 0;
        at = slice_get-get_or (replicate (length from) (plain 0)) 0 (plain 0) (omega (arith, lt, len)) ∙ ap Some (get_or-replicate (length from) 0 (plain 0) (plain 0) lt);
        graft = record {
          within = slice_get_within nodes 0 Zero graph.constant;
          value = λ u w val_u val_w same. constant_bit nodes u graph val_u ∙ sym (constant_bit from w other val_w);
        };
      };
      inputs = λ k c. absurd (Contains_none k c);
    }

-- an input's image is the input at its place
input_graft : (nodes from : List Node) (place d : ℕ) → IsGraph nodes → place < length (inputs_of nodes) → place < length (inputs_of from) → IsGraft nodes from (plain (get_or (inputs_of from) place d)) (plain (get_or (inputs_of nodes) place d))
input_graft nodes from place d graph lt_into lt_from =
    let m = get_or (inputs_of nodes) place d in
    let listed = Contains_at (inputs_of nodes) place m (slice_get-get_or (inputs_of nodes) place d lt_into) in
    record {
      within = slice_get_within nodes m (Input m) (listed_input nodes m graph listed);
      value = λ u w val_u val_w same.
          sym (get_or-map u (inputs_of nodes) place d false lt_into) ∙ ap (λ bits. get_or bits place false) same ∙ get_or-map w (inputs_of from) place d false lt_from;
    }

-- an input stands within its graph
source_within : (from : List Node) (place d : ℕ) → IsGraph from → place < length (inputs_of from) → get_or (inputs_of from) place d < length from
source_within from place d graph lt =
    let k = get_or (inputs_of from) place d in
    let listed = Contains_at (inputs_of from) place k (slice_get-get_or (inputs_of from) place d lt) in
    slice_get_within from k (Input k) (listed_input from k graph listed)

leaves_more : (nodes from : List Node) (place d : ℕ) (images : List Edge) → IsGraph nodes → IsGraph from → length (inputs_of from) ≡ length (inputs_of nodes) → place < length (inputs_of from) → AreLeaves nodes from place images → AreLeaves nodes from (place + 1) (set images (get_or (inputs_of from) place d) (plain (get_or (inputs_of nodes) place d)))
leaves_more nodes from place d images graph other same lt are =
    let j = get_or (inputs_of from) place d in
    let e = plain (get_or (inputs_of nodes) place d) in
    let graft : IsGraft nodes from (plain j) e = input_graft nodes from place d graph (omega (arith, lt, same)) lt in
    let within = source_within from place d other lt in
    let room : j < length images = omega (arith, within, are.count) in
    record {
      count = length-set images j e ∙ are.count;
      constant = image_set nodes from images j 0 e room graft are.constant;
      inputs = λ k c.
          let pushed = subst (λ list. Contains list k) (take_more (inputs_of from) place d lt) c in
          elim (Contains-push_cases (take place (inputs_of from)) j k pushed) [
            | inl before ↦ image_set nodes from images j k e room graft (are.inputs k before)
            | inr here ↦ subst (HasImage nodes from (set images j e)) here (image_here nodes from images j e room graft)
          ];
    }

-- the same by the lists that the graphs give
pub source_below : (from : List Node) (sources : List ℕ) (place : ℕ) → IsGraph from → sources ≡ inputs_of from → place < length sources → get_or sources place 0 < length from
source_below from sources place graph is lt =
    subst (λ list. get_or list place 0 < length from) (sym is) (source_within from place 0 graph (subst (λ list. place < length list) is lt))

pub leaves_next : (nodes from : List Node) (sources inputs : List ℕ) (place : ℕ) (images : List Edge) → IsGraph nodes → IsGraph from → sources ≡ inputs_of from → inputs ≡ inputs_of nodes → length (inputs_of from) ≡ length (inputs_of nodes) → place < length sources → AreLeaves nodes from place images → AreLeaves nodes from (place + 1) (set images (get_or sources place 0) (plain (get_or inputs place 0)))
leaves_next nodes from sources inputs place images graph other are_sources are_inputs same lt are =
    let next = leaves_more nodes from place 0 images graph other same (subst (λ list. place < length list) are_sources lt) are in
    let with_inputs = subst (λ list. AreLeaves nodes from (place + 1) (set images (get_or (inputs_of from) place 0) (plain (get_or list place 0)))) (sym are_inputs) next in
    subst (λ list. AreLeaves nodes from (place + 1) (set images (get_or list place 0) (plain (get_or inputs place 0)))) (sym are_sources) with_inputs

leaf_image : (nodes from : List Node) (images : List Edge) (k : ℕ) (node : Node) → IsGraph from → ((n : ℕ) → Contains (inputs_of from) n → HasImage nodes from images n) → HasImage nodes from images 0 → slice_get from k ≡ Some node → pair_at from k ≡ None → HasImage nodes from images k
leaf_image nodes from images k Zero graph inputs constant at none =
    subst (HasImage nodes from images) (graph.distinct 0 k Zero graph.constant at) constant
leaf_image nodes from images k (Input number) graph inputs constant at none =
    subst (HasImage nodes from images) (graph.inputs k number at) (inputs number (input_listed from k number at))
leaf_image nodes from images k (And a b) graph inputs constant at none =
    absurd (none-some (a, b) (sym none ∙ ap pair_there at))
  where
    pair_there : Option Node → Option (Edge × Edge)
    pair_there node = option_and_then pair_of node

pub leaves_all : (nodes from : List Node) (place : ℕ) (images : List Edge) → IsGraph from → length (inputs_of from) ≤ place → AreLeaves nodes from place images → AreImages nodes from 0 images
leaves_all nodes from place images graph le are = record {
  count = are.count;
  leaves = λ k lt none.
      leaf_image nodes from images k (get_or from k Zero) graph (λ n c. are.inputs n (subst (λ list. Contains list n) (sym (take_all place (inputs_of from) le)) c)) are.constant (slice_get-get_or from k Zero lt) none;
  before = λ k lt. absurd (omega (arith, lt));
}
