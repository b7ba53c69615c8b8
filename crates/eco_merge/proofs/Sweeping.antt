-- Edges reduced one after the other.
use Rattle.std.proofs.Common.{◌≡◌, inl, inr, ℕ, ◌+◌, ◌-◌, ◌<◌, ◌≤◌, List, [], ◌∷◌, ◌++◌, Some, length, take, sym, ◌∙◌, ap, subst, arith, add-one}
use Rattle.std.specs.List.{slice_get, All, AllZip, Contains}
use Rattle.std.proofs.lemmas.Option.{none-some, slice_get_within}
use Rattle.std.proofs.lemmas.List.{take_all, length-take-le}
use Rattle.std.proofs.lemmas.List.Elements.{AllZip-push, length_all_zip, All-contains, All-contains_itself, All-weaker}
use Rattle.eco_lists.proofs.Members.{only_one}
use Rattle.eco_lists.proofs.Places.{take_at_more, push_cases, place_of, Contains_at}
use Rattle.eco_aig.specs.declared.edge.Edge.{Edge}
use Rattle.eco_aig.specs.declared.node.Node.{Node}
use Rattle.eco_aig.specs.declared.node.Node.TheVariants.{Input}
use Rattle.eco_aig.specs.Edges.{value_of}
use Rattle.eco_aig.specs.Graph.{IsGraph, IsEdge, Grows, HasValue}
use Rattle.eco_aig.proofs.Growing.{grows_join, grows_more, grows_none}
use Rattle.eco_merge.specs.declared.loose.Loose.{Loose}
use Rattle.eco_merge.specs.declared.merging.Merging.{Merging}
use Rattle.eco_merge.specs.Images.{IsImage}
use Rattle.eco_merge.specs.Counting.{AreNoMore, AreUnlike, IsGate, IsItem, IsReachedInput, ReachNoMoreInputs}
use Rattle.eco_merge.specs.Questions.{IsEntry}
use Rattle.eco_merge.specs.Steps.{IsReady, IsMerged, IsEdgeImage, undone}
use Rattle.eco_merge.proofs.Staying.{grown_of, node_back, reached_back}
use Rattle.eco_merge.proofs.Keeping.{image_value, image_member}
use Rattle.eco_merge.proofs.Treating.{edge_image_stays}
use Rattle.eco_merge.proofs.Counted.{zip_at, reached_kept, kept_input, no_more_gates, no_more_items, unlike_kept}

-- the first edges are reduced
pub record IsSweeping (old : List Node) (roots : List Edge) (limit i : ℕ) (nodes : List Node) (m : Merging) (swept : List Edge) : Type 0 where
  pub graph : IsGraph nodes
  pub ready : IsReady nodes limit m
  pub grows : Grows old nodes (length old - undone m.images.items)
  pub fewer : undone m.images.items ≤ length old
  pub merged : IsMerged old (take i roots) nodes m
  pub images : AllZip (IsEdgeImage m.images.items) (take i roots) swept
  pub inputs : ReachNoMoreInputs old roots nodes swept

-- no edge is reduced yet
pub sweeping_start : (old : List Node) (roots : List Edge) (limit : ℕ) (m : Merging) (swept : List Edge) → IsGraph old → IsReady old limit m → IsMerged old [] old m → undone m.images.items ≡ length old → swept ≡ [] → IsSweeping old roots limit 0 old m swept
sweeping_start old roots limit m swept graph ready merged all none = record {
  graph = graph;
  ready = ready;
  grows = grows_none old (length old - undone m.images.items);
  fewer = omega (arith, all);
  merged = merged;
  images = subst (AllZip (IsEdgeImage m.images.items) []) (sym none) tt;
  inputs = subst (ReachNoMoreInputs old roots old) (sym none) (λ k e at. absurd (none-some e at));
}

-- what follows of each pair
zip_map : {X Y : Type 0} (R S : X → Y → Type 0) (xs : List X) (ys : List Y) → ((x : X) (y : Y) → R x y → S x y) → AllZip R xs ys → AllZip S xs ys
zip_map R S [] [] f zip = tt
zip_map R S [] (y ∷ ys) f zip = zip
zip_map R S (x ∷ xs) [] f zip = zip
zip_map R S (x ∷ xs) (y ∷ ys) f zip = (f x y zip.0, zip_map R S xs ys f zip.1)

-- the reduced edges go to kept nodes
swept_member : (old : List Node) (roots : List Edge) (limit i : ℕ) (nodes : List Node) (m : Merging) (swept : List Edge) → IsSweeping old roots limit i nodes m swept → (e : Edge) → Contains swept e → Contains m.kept.items e.node
swept_member old roots limit i nodes m swept is e c =
    let at = place_of swept e c in
    let from = zip_at (IsEdgeImage m.images.items) (take i roots) swept at.0 e is.images at.1 in
    image_member m.images.items m.kept.items from.0 e is.ready.members from.2

pub sweeping_next : (old : List Node) (roots : List Edge) (limit i : ℕ) (nodes new : List Node) (m m' : Merging) (swept swept' : List Edge) (root e : Edge) → slice_get roots i ≡ Some root → IsGraph new → IsReady new limit m' → IsEdgeImage m'.images.items root e → ((k : ℕ) (r : Edge) → IsImage m.images.items k r → IsImage m'.images.items k r) → Grows nodes new (undone m.images.items - undone m'.images.items) → undone m'.images.items ≤ undone m.images.items → ((first : List Node) (edges : List Edge) → IsMerged first edges nodes m → IsMerged first (edges ++ root ∷ []) new m') → swept' ≡ swept ++ e ∷ [] → IsSweeping old roots limit i nodes m swept → IsSweeping old roots limit (i + 1) new m' swept'
sweeping_next old roots limit i nodes new m m' swept swept' root e at graph ready image stay grows fewer merged pushed is = record {
  graph = graph;
  ready = ready;
  grows = grows_more old new ((length old - undone m.images.items) + (undone m.images.items - undone m'.images.items)) (length old - undone m'.images.items) (omega (arith, fewer, fewer_old)) (grows_join old nodes new (length old - undone m.images.items) (undone m.images.items - undone m'.images.items) is.grows grows);
  fewer = omega (arith, fewer, fewer_old);
  merged = now;
  images = subst (λ list. AllZip (IsEdgeImage m'.images.items) list swept') (sym front) (subst (AllZip (IsEdgeImage m'.images.items) (take i roots ++ root ∷ [])) (sym pushed) (AllZip-push (IsEdgeImage m'.images.items) (take i roots) swept root e (zip_map (IsEdgeImage m.images.items) (IsEdgeImage m'.images.items) (take i roots) swept (λ x r h. edge_image_stays m.images.items m'.images.items x r stay h) is.images) image));
  inputs = subst (ReachNoMoreInputs old roots new) (sym pushed) inputs_now;
}
  where
    fewer_old : undone m.images.items ≤ length old
    fewer_old = is.fewer

    front : take (i + 1) roots ≡ take i roots ++ root ∷ []
    front = ap (λ n. take n roots) (add-one i) ∙ take_at_more roots i root at

    now : IsMerged old (take (i + 1) roots) new m'
    now = subst (λ list. IsMerged old list new m') (sym front) (merged old (take i roots) is.merged)

    long : length swept ≡ i
    long = omega (arith, length_all_zip (IsEdgeImage m.images.items) (take i roots) swept is.images, length-take-le i roots (let lt = slice_get_within roots i root at in omega (arith, lt)))

    older : (k : ℕ) (x : Edge) → slice_get swept k ≡ Some x → (j : ℕ) → IsReachedInput new (x ∷ []) j → IsReachedInput old (take (k + 1) roots) j
    older k x at_k j r =
        let grown = grown_of nodes new (undone m.images.items - undone m'.images.items) grows in
        let member = swept_member old roots limit i nodes m swept is x (Contains_at swept k x at_k) in
        let within : x.node < length nodes = All-contains (λ n. n < length nodes) m.kept.items x.node is.ready.kept.within member in
        let back = reached_back nodes new grown (x ∷ []) is.graph (λ y c. subst (λ (z : Edge). z.node < length nodes) (only_one x y c) within) j r.reached in
        is.inputs k x at_k j (record { input = node_back nodes new grown j (Input j) back.1 r.input; reached = back.0 })

    newest : (j : ℕ) → IsReachedInput new (e ∷ []) j → IsReachedInput old (take (i + 1) roots) j
    newest j r =
        let member = image_member m'.images.items m'.kept.items root e ready.members image in
        let kept = reached_kept old (take (i + 1) roots) new m' graph now ready.members (e ∷ []) (λ y c. subst (λ (z : Edge). Contains m'.kept.items z.node) (only_one e y c) member) j r.reached in
        kept_input old (take (i + 1) roots) new m' graph now ready.members j r.input kept

    inputs_now : ReachNoMoreInputs old roots new (swept ++ e ∷ [])
    inputs_now k x at_k = elim (push_cases swept e k x at_k) [
      | inl old_one ↦ older k x old_one
      | inr new_one ↦ λ j r.
          let same : i ≡ k = sym long ∙ sym new_one.0 in
          subst (λ n. IsReachedInput old (take (n + 1) roots) j) same (newest j (subst (λ (y : Edge). IsReachedInput new (y ∷ []) j) new_one.1 r))
    ]

-- all edges are reduced
module _ (old : List Node) (roots : List Edge) (limit i : ℕ) (nodes : List Node) (m : Merging) (swept : List Edge) (end : length roots ≤ i) (is : IsSweeping old roots limit i nodes m swept) where
  all : take i roots ≡ roots
  all = take_all i roots end

  whole : IsMerged old roots nodes m
  whole = subst (λ list. IsMerged old list nodes m) all is.merged

  pub swept_values : AllZip (λ e r. HasValue nodes r (λ w. value_of w e)) roots swept
  swept_values =
      zip_map (IsEdgeImage m.images.items) (λ e r. HasValue nodes r (λ w. value_of w e)) roots swept (λ x r h. image_value nodes m.images.items x r is.ready.swept h) (subst (λ list. AllZip (IsEdgeImage m.images.items) list swept) all is.images)

  -- the reduced edges are edges of the graph
  pub swept_edges : All (IsEdge nodes) swept
  swept_edges =
      All-weaker (Contains swept) (IsEdge nodes) (λ e c. All-contains (λ n. n < length nodes) m.kept.items e.node is.ready.kept.within (swept_member old roots limit i nodes m swept is e c)) swept (All-contains_itself swept)

  starts : (e : Edge) → Contains swept e → Contains m.kept.items e.node
  starts = swept_member old roots limit i nodes m swept is

  pub swept_gates : AreNoMore (IsGate nodes swept) (IsGate old roots)
  swept_gates = no_more_gates old roots nodes m is.graph whole is.ready.members swept starts

  pub swept_items : AreNoMore (IsItem nodes swept) (IsItem old roots)
  swept_items = no_more_items old roots nodes m is.graph whole is.ready.members swept starts

  -- entries that are among those of before
  pub swept_entries : (told : List Loose) → All (Contains m.findings.apart.items) told → All (IsEntry nodes limit) told
  swept_entries told older =
      All-weaker (Contains m.findings.apart.items) (IsEntry nodes limit) (λ entry c. All-contains (IsEntry nodes limit) m.findings.apart.items entry is.ready.findings.entries c) told older

  pub swept_unlike : AreUnlike nodes swept m.findings.apart.items
  swept_unlike =
      unlike_kept nodes swept m.findings.apart.items m.kept.items is.graph is.ready.kept (reached_kept old roots nodes m is.graph whole is.ready.members swept starts)
