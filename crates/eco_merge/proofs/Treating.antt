-- What a node's image leaves: the state stays ready, and merged.
use Rattle.std.proofs.Common.{◌≡◌, ◌⊎◌, inl, inr, ℕ, ◌<◌, true, ◌&&◌, List, [], ◌∷◌, Option, Some, None, length, set, refl, sym, ◌∙◌, ap, subst, arith, length-set}
use Rattle.std.specs.List.{slice_get, Contains}
use Rattle.std.specs.Option.{option_and_then}
use Rattle.std.proofs.lemmas.Bool.{false≢true}
use Rattle.std.proofs.lemmas.Option.{none-some, slice_get_within}
use Rattle.std.proofs.lemmas.List.Elements.{Contains-append_left, Contains-append_right, Contains-append_cases}
use Rattle.eco_lists.proofs.Members.{Contains_first, only_one}
use Rattle.eco_lists.proofs.Places.{item_at}
use Rattle.eco_aig.specs.declared.edge.Edge.{Edge}
use Rattle.eco_aig.specs.declared.node.Node.{Node}
use Rattle.eco_aig.specs.declared.node.Node.TheVariants.{Zero, Input, And}
use Rattle.eco_aig.specs.Edges.{plain, value_of}
use Rattle.eco_aig.specs.Graph.{IsGraph, Grows, HasValue, pair_of, pair_at, in_order}
use Rattle.eco_aig.proofs.Conjunctions.{pair_at_node}
use Rattle.eco_aig.proofs.Growing.{value_stays}
use Rattle.eco_aig.specs.Reached.{IsReached}
use Rattle.eco_tseitin.specs.Encoding.{HasGrown}
use Rattle.eco_merge.specs.declared.loose.Loose.{Loose}
use Rattle.eco_merge.specs.declared.findings.Findings.{Findings}
use Rattle.eco_merge.specs.declared.merging.Merging.{Merging}
use Rattle.eco_merge.specs.Alike.{IsAndNode}
use Rattle.eco_merge.specs.Images.{IsImage, IsSwept}
use Rattle.eco_merge.specs.Steps.{IsReady, AreKept, AreFindings, IsEdgeImage, IsKept, IsMerged, IsJoined, Keeps, constant, input, made, found, added}
use Rattle.eco_merge.proofs.Listing.{more_none}
use Rattle.eco_tseitin.proofs.Growing.{no_growth}
use Rattle.eco_merge.proofs.Staying.{grown_of, grown_join, longer, pair_on, pair_back, node_back}
use Rattle.eco_merge.proofs.Keeping.{kept_push, image_value, image_cases, image_stays, image_new}

-- what is no and-node has no operands
no_operands : (nodes : List Node) (n : ℕ) → pair_at nodes n ≡ None → IsAndNode nodes n → ⊥
no_operands nodes n none is = none-some (is.first, is.second) (sym none ∙ is.operands)

-- what was kept is kept, and the node too
keeps_old : (before after : List ℕ) (n k : ℕ) → Keeps before after n → Contains before k → Contains after k
keeps_old before after n k (inl same) c = subst (λ list. Contains list k) (sym same.0) c
keeps_old before after n k (inr more) c = subst (λ list. Contains list k) (sym more) (Contains-append_left before (n ∷ []) k c)

pub keeps_new : (before after : List ℕ) (n : ℕ) → Keeps before after n → Contains after n
keeps_new before after n (inl same) = subst (λ list. Contains list n) (sym same.0) same.1
keeps_new before after n (inr more) = subst (λ list. Contains list n) (sym more) (Contains-append_right before (n ∷ []) n (Contains_first n []))

keeps_cases : (before after : List ℕ) (n k : ℕ) → Keeps before after n → Contains after k → Contains before k ⊎ (n ≡ k)
keeps_cases before after n k (inl same) c = inl (subst (λ list. Contains list k) same.0 c)
keeps_cases before after n k (inr more) c = elim (Contains-append_cases before (n ∷ []) k (subst (λ list. Contains list k) more c)) [
  | inl old ↦ inl old
  | inr new ↦ inr (only_one n k new)
]

keeps_kept : (nodes : List Node) (apart : List Loose) (before after : List ℕ) (n : ℕ) → n < length nodes → pair_at nodes n ≡ None → Keeps before after n → AreKept nodes apart before → AreKept nodes apart after
keeps_kept nodes apart before after n within leaf (inl same) are = subst (AreKept nodes apart) (sym same.0) are
keeps_kept nodes apart before after n within leaf (inr more) are =
    subst (AreKept nodes apart) (sym more) (kept_push nodes apart apart before n within (more_none apart) (λ conjunction. absurd (no_operands nodes n leaf conjunction)) are)

-- a node gets an image with its value, which goes to a node that is kept
pub swept_set : (nodes : List Node) (images : List (Option Edge)) (n : ℕ) (e : Edge) → IsSwept nodes images → HasValue nodes e (λ w. w n) → IsSwept nodes (set images n (Some e))
swept_set nodes images n e swept has k r at = elim (image_cases images n e k r at) [
  | inl new ↦ subst (λ (x : Edge). HasValue nodes x (λ w. w k)) (sym new.1) (subst (λ (i : ℕ). HasValue nodes e (λ w. w i)) (sym new.0) has)
  | inr old ↦ swept k r old
]

pub members_set : (images : List (Option Edge)) (kept : List ℕ) (n : ℕ) (e : Edge) → ((k : ℕ) (r : Edge) → IsImage images k r → Contains kept r.node) → Contains kept e.node → (k : ℕ) (r : Edge) → IsImage (set images n (Some e)) k r → Contains kept r.node
members_set images kept n e members here k r at = elim (image_cases images n e k r at) [
  | inl new ↦ subst (λ (x : Edge). Contains kept x.node) (sym new.1) here
  | inr old ↦ members k r old
]

-- the state after a leaf, and after a conjunction
pub leaf_ready : (nodes : List Node) (limit n : ℕ) (m m' : Merging) → IsReady nodes limit m → slice_get m.images.items n ≡ Some None → pair_at nodes n ≡ None → Keeps m.kept.items m'.kept.items n → m'.images.items ≡ set m.images.items n (Some (plain n)) → m'.findings ≡ m.findings → IsReady nodes limit m'
leaf_ready nodes limit n m m' is untreated leaf keeps images findings =
    let few = is.few in
    let low = slice_get_within m.images.items n None untreated in
    let within : n < length nodes = omega (arith, low, few) in
    let value : HasValue nodes (plain n) (λ w. w n) = record { within = within; value = λ w valuation. refl } in
    record {
      few = omega (arith, few, ap (λ (list : List (Option Edge)). length list) images, length-set m.images.items n (Some (plain n)));
      swept = subst (IsSwept nodes) (sym images) (swept_set nodes m.images.items n (plain n) is.swept value);
      members = subst (λ list. (k : ℕ) (r : Edge) → IsImage list k r → Contains m'.kept.items r.node) (sym images) (members_set m.images.items m'.kept.items n (plain n) (λ k r at. keeps_old m.kept.items m'.kept.items n r.node keeps (is.members k r at)) (keeps_new m.kept.items m'.kept.items n keeps));
      kept = subst (λ (f : Findings). AreKept nodes f.apart.items m'.kept.items) (sym findings) (keeps_kept nodes m.findings.apart.items m.kept.items m'.kept.items n within leaf keeps is.kept);
      findings = subst (AreFindings nodes limit) (sym findings) is.findings;
    }

pub image_ready : (nodes : List Node) (limit n : ℕ) (e : Edge) (m m' : Merging) → IsReady nodes limit m → HasValue nodes e (λ w. w n) → Contains m.kept.items e.node → m'.images.items ≡ set m.images.items n (Some e) → m'.kept.items ≡ m.kept.items → m'.findings ≡ m.findings → IsReady nodes limit m'
image_ready nodes limit n e m m' is value member images kept findings = record {
  few = (let few = is.few in omega (arith, few, ap (λ (list : List (Option Edge)). length list) images, length-set m.images.items n (Some e)));
  swept = subst (IsSwept nodes) (sym images) (swept_set nodes m.images.items n e is.swept value);
  members = subst (λ list. (k : ℕ) (r : Edge) → IsImage list k r → Contains m'.kept.items r.node) (sym images) (subst (λ (ns : List ℕ). (k : ℕ) (r : Edge) → IsImage (set m.images.items n (Some e)) k r → Contains ns r.node) (sym kept) (members_set m.images.items m.kept.items n e is.members member));
  kept = subst (λ (f : Findings). AreKept nodes f.apart.items m'.kept.items) (sym findings) (subst (AreKept nodes m.findings.apart.items) (sym kept) is.kept);
  findings = subst (AreFindings nodes limit) (sym findings) is.findings;
}

-- the conjunction of the operands' images has the node's value
pub conjunction_value : (old new : List Node) (n : ℕ) (images : List (Option Edge)) (first second p q e : Edge) → Grows old new 1 → pair_at old n ≡ Some (first, second) → IsSwept old images → IsEdgeImage images first p → IsEdgeImage images second q → HasValue new e (λ w. value_of w p && value_of w q) → HasValue new e (λ w. w n)
conjunction_value old new n images first second p q e grows pair swept p_is q_is has =
    let one = value_stays old new 1 p (λ w. value_of w first) grows (image_value old images first p swept p_is) in
    let two = value_stays old new 1 q (λ w. value_of w second) grows (image_value old images second q swept q_is) in
    let node = pair_at_node new n first second (pair_on old new (grown_of old new 1 grows) n first second pair) in
    record {
      within = has.within;
      value = λ w valuation. has.value w valuation ∙ ap (λ x. x && value_of w q) (one.value w valuation) ∙ ap (λ x. value_of w first && x) (two.value w valuation) ∙ sym (valuation.fits n (And first second) node);
    }

-- what is kept stays so where the graph grows and a node gets an image
pub edge_image_stays : (images images' : List (Option Edge)) (x e : Edge) → ((k : ℕ) (r : Edge) → IsImage images k r → IsImage images' k r) → IsEdgeImage images x e → IsEdgeImage images' x e
edge_image_stays images images' x e stay is = record { of_node = is.of_node; at = stay x.node is.of_node is.at; is = is.is }

kept_stays : (old : List Node) (roots : List Edge) (nodes new : List Node) (images images' : List (Option Edge)) → HasGrown nodes new → ((k : ℕ) (r : Edge) → IsImage images k r → IsImage images' k r) → (k : ℕ) → IsKept old roots nodes images k → IsKept old roots new images' k
kept_stays old roots nodes new images images' grown stay _ constant = constant
kept_stays old roots nodes new images images' grown stay _ (input k is) = input k is
kept_stays old roots nodes new images images' grown stay _ (made k is) = made k (record {
  source = is.source;
  first = is.first;
  second = is.second;
  operands = is.operands;
  reached = is.reached;
  image = stay is.source (plain k) is.image;
  p = is.p;
  q = is.q;
  p_is = edge_image_stays images images' is.first is.p stay is.p_is;
  q_is = edge_image_stays images images' is.second is.q stay is.q_is;
  made = by is.p is.q is.made;
})
  where
    by : (p q : Edge) → pair_at nodes k ≡ Some (in_order p q) → pair_at new k ≡ Some (in_order p q)
    by p q pair = pair_on nodes new grown k (in_order p q).0 (in_order p q).1 pair

-- a treated node, where what is kept is told
merged_image : (old : List Node) (roots : List Edge) (nodes new : List Node) (m m' : Merging) (n : ℕ) (e : Edge) → IsMerged old roots nodes m → HasGrown nodes new → IsReached old roots n → m'.images.items ≡ set m.images.items n (Some e) → (e.complemented ≡ true → IsAndNode old n) → ((k : ℕ) → Contains m'.kept.items k → IsKept old roots new (set m.images.items n (Some e)) k) → IsMerged old roots new m'
merged_image old roots nodes new m m' n e is grown reached images turned each =
    let list = set m.images.items n (Some e) in
    record {
      graph = is.graph;
      grown = grown_join old nodes new is.grown grown;
      count = ap (λ (xs : List (Option Edge)). length xs) images ∙ length-set m.images.items n (Some e) ∙ is.count;
      reached = subst (λ xs. (k : ℕ) (r : Edge) → IsImage xs k r → IsReached old roots k) (sym images) (λ k r at. elim (image_cases m.images.items n e k r at) [
        | inl new_one ↦ subst (IsReached old roots) (sym new_one.0) reached
        | inr old_one ↦ is.reached k r old_one
      ]);
      turned = subst (λ xs. (k : ℕ) (r : Edge) → IsImage xs k r → r.complemented ≡ true → IsAndNode old k) (sym images) (λ k r at sign. elim (image_cases m.images.items n e k r at) [
        | inl new_one ↦ subst (IsAndNode old) (sym new_one.0) (turned (ap (λ (x : Edge). x.complemented) (sym new_one.1) ∙ sign))
        | inr old_one ↦ is.turned k r old_one sign
      ]);
      each = λ k c. subst (λ xs. IsKept old roots new xs k) (sym images) (each k c);
    }

-- a node that is no and-node is the constant or an input
leaf_kept : (old : List Node) (roots : List Edge) (nodes : List Node) (images : List (Option Edge)) (n : ℕ) → IsGraph nodes → HasGrown old nodes → n < length old → pair_at nodes n ≡ None → IsReached old roots n → IsKept old roots nodes images n
leaf_kept old roots nodes images n graph grown within leaf reached =
    by (item_at nodes n (omega (arith, within, longer old nodes grown))).0 (item_at nodes n (omega (arith, within, longer old nodes grown))).1
  where
    by : (node : Node) → slice_get nodes n ≡ Some node → IsKept old roots nodes images n
    by Zero at = subst (IsKept old roots nodes images) (graph.distinct 0 n Zero graph.constant at) constant
    by (Input number) at =
        let own : slice_get nodes n ≡ Some (Input n) = at ∙ ap (λ i. Some (Input i)) (graph.inputs n number at) in
        input n (record { input = node_back old nodes grown n (Input n) within own; reached = reached })
    by (And a b) at = absurd (none-some (a, b) (sym leaf ∙ ap (option_and_then pair_of) at))

pub leaf_merged : (old : List Node) (roots : List Edge) (nodes : List Node) (m m' : Merging) (n : ℕ) → IsGraph nodes → IsMerged old roots nodes m → IsReached old roots n → slice_get m.images.items n ≡ Some None → pair_at nodes n ≡ None → Keeps m.kept.items m'.kept.items n → m'.images.items ≡ set m.images.items n (Some (plain n)) → IsMerged old roots nodes m'
leaf_merged old roots nodes m m' n graph is reached untreated leaf keeps images =
    let list = set m.images.items n (Some (plain n)) in
    let low = slice_get_within m.images.items n None untreated in
    merged_image old roots nodes nodes m m' n (plain n) is (no_growth nodes) reached images (λ e. absurd (false≢true e)) (λ k c. elim (keeps_cases m.kept.items m'.kept.items n k keeps c) [
      | inl old_one ↦ kept_stays old roots nodes nodes m.images.items list (no_growth nodes) (image_stays m.images.items n (plain n) untreated) k (is.each k old_one)
      | inr same ↦ subst (IsKept old roots nodes list) same (leaf_kept old roots nodes list n graph is.grown (omega (arith, low, is.count)) leaf reached)
    ])

pub conjunction_merged : (old : List Node) (roots : List Edge) (nodes new : List Node) (m m' : Merging) (n : ℕ) (first second p q e : Edge) → IsMerged old roots nodes m → Grows nodes new 1 → IsReached old roots n → slice_get m.images.items n ≡ Some None → pair_at nodes n ≡ Some (first, second) → IsEdgeImage m.images.items first p → IsEdgeImage m.images.items second q → IsJoined new m.kept.items m'.kept.items p q e → m'.images.items ≡ set m.images.items n (Some e) → IsMerged old roots new m'
conjunction_merged old roots nodes new m m' n first second p q e is grows reached untreated pair p_is q_is joined images =
    merged_image old roots nodes new m m' n e is grown reached images (λ sign. record { first = first; second = second; operands = operands }) (λ k c. each joined k c)
  where
    grown : HasGrown nodes new
    grown = grown_of nodes new 1 grows

    within : n < length old
    within = (let low = slice_get_within m.images.items n None untreated in omega (arith, low, is.count))

    operands : pair_at old n ≡ Some (first, second)
    operands = pair_back old nodes is.grown n within ∙ pair

    list : List (Option Edge)
    list = set m.images.items n (Some e)

    stay : (k : ℕ) (r : Edge) → IsImage m.images.items k r → IsImage list k r
    stay = image_stays m.images.items n e untreated

    older : (k : ℕ) → Contains m.kept.items k → IsKept old roots new list k
    older k c = kept_stays old roots nodes new m.images.items list grown stay k (is.each k c)

    each : IsJoined new m.kept.items m'.kept.items p q e → (k : ℕ) → Contains m'.kept.items k → IsKept old roots new list k
    each (found same c_e) k c = older k (subst (λ xs. Contains xs k) same c)
    each (added more plainly pair_new) k c = elim (Contains-append_cases m.kept.items (e.node ∷ []) k (subst (λ xs. Contains xs k) more c)) [
      | inl old_one ↦ older k old_one
      | inr new_one ↦ subst (IsKept old roots new list) (only_one e.node k new_one) (made e.node (record {
        source = n;
        first = first;
        second = second;
        operands = operands;
        reached = reached;
        image = subst (IsImage list n) plainly (image_new m.images.items n e untreated);
        p = p;
        q = q;
        p_is = edge_image_stays m.images.items list first p stay p_is;
        q_is = edge_image_stays m.images.items list second q stay q_is;
        made = pair_new;
      }))
    ]

-- the image of a conjunction goes to a kept node
pub joined_member : (new : List Node) (before after : List ℕ) (p q e : Edge) → IsJoined new before after p q e → Contains after e.node
joined_member new before after p q e (found same c) = subst (λ xs. Contains xs e.node) (sym same) c
joined_member new before after p q e (added more plainly pair) =
    subst (λ xs. Contains xs e.node) (sym more) (Contains-append_right before (e.node ∷ []) e.node (Contains_first e.node []))
