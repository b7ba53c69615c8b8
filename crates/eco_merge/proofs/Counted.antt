-- What is kept, counted against what was there, and what the new edges reach.
use Rattle.std.proofs.Common.{◌≡◌, ◌≢◌, ◌⊎◌, inl, inr, ℕ, zero, suc, ◌<◌, Bool, true, false, cond, ltb, List, [], ◌∷◌, Option, Some, None, refl, sym, ◌∙◌, ap, subst, arith}
use Rattle.std.specs.List.{slice_get, All, AllZip, Contains}
use Rattle.std.specs.Option.{option_and_then}
use Rattle.std.proofs.lemmas.Option.{none-some, same_Some}
use Rattle.std.proofs.lemmas.List.Elements.{All-nil, All-cons, All-head, All-tail}
use Rattle.std.proofs.lemmas.Slice.Zip.{AllZip-long}
use Rattle.eco_lists.proofs.Places.{pair_at as pair_of_places, pairs_from_places, place_of, slice_get-append_left, cases_unequal}
use Rattle.eco_aig.specs.declared.edge.Edge.{Edge}
use Rattle.eco_aig.specs.declared.node.Node.{Node}
use Rattle.eco_aig.specs.declared.node.Node.TheVariants.{Zero, Input}
use Rattle.eco_aig.specs.Edges.{plain}
use Rattle.eco_aig.specs.Graph.{IsGraph, pair_of, pair_at, in_order}
use Rattle.eco_aig.specs.Reached.{IsReached}
use Rattle.eco_aig.proofs.Reaching.{by_first, by_second, all_reached_have}
use Rattle.eco_merge.specs.declared.loose.Loose.{Loose}
use Rattle.eco_merge.specs.declared.merging.Merging.{Merging}
use Rattle.eco_merge.specs.Alike.{IsAndNode}
use Rattle.eco_merge.specs.Images.{IsImage, signed}
use Rattle.eco_merge.specs.Questions.{IsCompared, AreCompared}
use Rattle.eco_merge.specs.Counting.{AreNoMore, IsGate, IsItem, IsReachedInput, AreUnlike, gate, first, second}
use Rattle.eco_merge.specs.Steps.{IsComparedWith, AreKept, IsEdgeImage, IsMadeFrom, IsKept, IsMerged, constant, input, made}
use Rattle.eco_merge.proofs.Alike.{alike_flip, other_some}
use Rattle.eco_merge.proofs.Keeping.{image_member}

-- where each of the new things comes from an old one, and no two from one, they are no more
sources : {X Y : Type 0} (P : X → Type 0) (Q : Y → Type 0) (From : Y → X → Type 0) → ((x : X) → P x → (y : Y) × Q y × From y x) → (xs : List X) → All P xs → (ys : List Y) × All Q ys × AllZip (λ x y. From y x) xs ys
sources P Q From source [] all = ([], All-nil Q, tt)
sources P Q From source (x ∷ xs) all =
    let here = source x (All-head P x xs all) in
    let rest = sources P Q From source xs (All-tail P x xs all) in
    (here.0 ∷ rest.0, All-cons Q here.0 rest.0 here.1 rest.1, (here.2, rest.2))

-- an element of the second list has one of the first, at its place
pub zip_at : {X Y : Type 0} (R : X → Y → Type 0) (xs : List X) (ys : List Y) (k : ℕ) (y : Y) → AllZip R xs ys → slice_get ys k ≡ Some y → (x : X) × (slice_get xs k ≡ Some x) × R x y
zip_at R [] [] k y zip at = absurd (none-some y at)
zip_at R [] (z ∷ zs) k y zip at = absurd zip
zip_at R (x ∷ xs) [] k y zip at = absurd zip
zip_at R (x ∷ xs) (z ∷ zs) zero y zip at = (x, refl, subst (R x) (same_Some z y at) zip.0)
zip_at R (x ∷ xs) (z ∷ zs) (suc k) y zip at = zip_at R xs zs k y zip.1 at

no_more : {X Y : Type 0} (P : X → Type 0) (Q : Y → Type 0) (From : Y → X → Type 0) → ((x : X) → P x → (y : Y) × Q y × From y x) → ((y : Y) (a b : X) → From y a → From y b → a ≡ b) → AreNoMore P Q
no_more P Q From source one xs once all =
    let list = sources P Q From source xs all in (
      list.0,
      pairs_from_places (λ a b. a ≢ b) list.0 (λ i j a b lt at_i at_j same.
          let x = zip_at (λ u y. From y u) xs list.0 i a list.2 at_i in
          let z = zip_at (λ u y. From y u) xs list.0 j b list.2 at_j in
          pair_of_places (λ u v. u ≢ v) xs i j x.0 z.0 once lt x.1 z.1 (one a x.0 z.0 x.2 (subst (λ y. From y z.0) (sym same) z.2))),
      list.1,
      AllZip-long (λ u y. From y u) xs list.0 list.2,
    )

-- a node has one image, and so has an edge
image_once : (images : List (Option Edge)) (k : ℕ) (a b : Edge) → IsImage images k a → IsImage images k b → a ≡ b
image_once images k a b at_a at_b = same_Some a b (same_Some (Some a) (Some b) (sym at_a ∙ at_b))

edge_image_once : (images : List (Option Edge)) (x a b : Edge) → IsEdgeImage images x a → IsEdgeImage images x b → a ≡ b
edge_image_once images x a b is_a is_b =
    is_a.is ∙ ap (signed x.complemented) (image_once images x.node is_a.of_node is_b.of_node is_a.at is_b.at) ∙ sym is_b.is

-- the operands of a conjunction in order are the two edges
first_of_two : (a b p q : Edge) → Some (in_order p q) ≡ Some (a, b) → (a ≡ p) ⊎ (a ≡ q)
first_of_two a b p q e = by (ltb p.node q.node) (same_Some (in_order p q) (a, b) e)
  where
    by : (t : Bool) → cond {A = Edge × Edge} t (p, q) (q, p) ≡ (a, b) → (a ≡ p) ⊎ (a ≡ q)
    by true e = inl (sym (ap (λ (x : Edge × Edge). x.0) e))
    by false e = inr (sym (ap (λ (x : Edge × Edge). x.0) e))

second_of_two : (a b p q : Edge) → Some (in_order p q) ≡ Some (a, b) → (b ≡ p) ⊎ (b ≡ q)
second_of_two a b p q e = by (ltb p.node q.node) (same_Some (in_order p q) (a, b) e)
  where
    by : (t : Bool) → cond {A = Edge × Edge} t (p, q) (q, p) ≡ (a, b) → (b ≡ p) ⊎ (b ≡ q)
    by true e = inr (sym (ap (λ (x : Edge × Edge). x.1) e))
    by false e = inl (sym (ap (λ (x : Edge × Edge). x.1) e))

module _ (old : List Node) (roots : List Edge) (nodes : List Node) (m : Merging) (graph : IsGraph nodes) (is : IsMerged old roots nodes m) (members : (k : ℕ) (e : Edge) → IsImage m.images.items k e → Contains m.kept.items e.node) where
  -- an input or the constant is no and-node
  leaf_no_pair : (k : ℕ) (node : Node) → slice_get nodes k ≡ Some node → pair_of node ≡ None → IsAndNode nodes k → ⊥
  leaf_no_pair k node at none conjunction =
      none-some (conjunction.first, conjunction.second) (sym none ∙ sym (ap (option_and_then pair_of) at) ∙ conjunction.operands)

  input_there : (k : ℕ) → IsReachedInput old roots k → slice_get nodes k ≡ Some (Input k)
  input_there k r = ap (λ list. slice_get list k) is.grown.behind ∙ slice_get-append_left old is.grown.added k (Input k) r.input

  -- an and-node that is kept is the image of an older one
  kept_made : (k : ℕ) → IsKept old roots nodes m.images.items k → IsAndNode nodes k → IsMadeFrom old roots nodes m.images.items k
  kept_made _ constant conjunction = absurd (leaf_no_pair 0 Zero graph.constant refl conjunction)
  kept_made _ (input k r) conjunction = absurd (leaf_no_pair k (Input k) (input_there k r) refl conjunction)
  kept_made _ (made k from) conjunction = from

  member_of : (x p : Edge) → IsEdgeImage m.images.items x p → Contains m.kept.items p.node
  member_of x p p_is = image_member m.images.items m.kept.items x p members p_is

  operand_kept : (k : ℕ) (a b e : Edge) → IsMadeFrom old roots nodes m.images.items k → ((p q : Edge) → pair_at nodes k ≡ Some (in_order p q) → (e ≡ p) ⊎ (e ≡ q)) → Contains m.kept.items e.node
  operand_kept k a b e from is_one = elim (is_one from.p from.q from.made) [
    | inl same ↦ subst (λ (x : Edge). Contains m.kept.items x.node) (sym same) (member_of from.first from.p from.p_is)
    | inr same ↦ subst (λ (x : Edge). Contains m.kept.items x.node) (sym same) (member_of from.second from.q from.q_is)
  ]

  -- all that edges to kept nodes reach is kept
  pub reached_kept : (edges : List Edge) → ((e : Edge) → Contains edges e → Contains m.kept.items e.node) → (k : ℕ) → IsReached nodes edges k → Contains m.kept.items k
  reached_kept edges starts = all_reached_have nodes edges (λ k. Contains m.kept.items k) starts (λ k a b pair has.
      let from = kept_made k (is.each k has) (record { first = a; second = b; operands = pair }) in (
        operand_kept k a b a from (λ p q made_of. first_of_two a b p q (sym made_of ∙ pair)),
        operand_kept k a b b from (λ p q made_of. second_of_two a b p q (sym made_of ∙ pair)),
      ))

  -- an input that is kept was reached
  pub kept_input : (k : ℕ) → slice_get nodes k ≡ Some (Input k) → Contains m.kept.items k → IsReachedInput old roots k
  kept_input k at c = by k at (is.each k c)
    where
      by : (k : ℕ) → slice_get nodes k ≡ Some (Input k) → IsKept old roots nodes m.images.items k → IsReachedInput old roots k
      by _ at constant = absurd (let e : Input 0 ≡ Zero = same_Some (Input 0) Zero (sym at ∙ graph.constant) in cc)
      by _ at (input k r) = r
      by _ at (made k from) = absurd (leaf_no_pair k (Input k) at refl (record { first = (in_order from.p from.q).0; second = (in_order from.p from.q).1; operands = from.made }))

  -- the source of a gate, and of the complement of an operand
  gate_source : (edges : List Edge) → ((e : Edge) → Contains edges e → Contains m.kept.items e.node) → (k : ℕ) → IsGate nodes edges k → (source : ℕ) × IsGate old roots source × IsImage m.images.items source (plain k)
  gate_source edges starts k g =
      let from = kept_made k (is.each k (reached_kept edges starts k g.reached)) g.conjunction in
      (from.source, record { conjunction = record { first = from.first; second = from.second; operands = from.operands }; reached = from.reached }, from.image)

  complement_source : (x e : Edge) → IsReached old roots x.node → (x.complemented ≡ true → IsItem old roots x) → IsEdgeImage m.images.items x e → e.complemented ≡ true → (y : Edge) × IsItem old roots y × IsEdgeImage m.images.items y e
  complement_source x e reached item e_is sign = by x.complemented refl
    where
      by : (c : Bool) → x.complemented ≡ c → (y : Edge) × IsItem old roots y × IsEdgeImage m.images.items y e
      by true c_is = (x, item c_is, e_is)
      by false c_is =
          let whole : e ≡ e_is.of_node = e_is.is ∙ ap (λ c. signed c e_is.of_node) c_is in
          let conjunction = is.turned x.node e_is.of_node e_is.at (ap (λ (r : Edge). r.complemented) (sym whole) ∙ sign) in
          (plain x.node, gate x.node (record { conjunction = conjunction; reached = reached }), record { of_node = e_is.of_node; at = e_is.at; is = whole })

  operand_source : (k : ℕ) (e : Edge) → IsMadeFrom old roots nodes m.images.items k → ((p q : Edge) → pair_at nodes k ≡ Some (in_order p q) → (e ≡ p) ⊎ (e ≡ q)) → e.complemented ≡ true → (y : Edge) × IsItem old roots y × IsEdgeImage m.images.items y e
  operand_source k e from is_one sign = elim (is_one from.p from.q from.made) [
    | inl same ↦ complement_source from.first e (by_first old roots from.source from.first from.second from.operands from.reached) (first from.source from.first from.second from.operands from.reached) (subst (IsEdgeImage m.images.items from.first) (sym same) from.p_is) sign
    | inr same ↦ complement_source from.second e (by_second old roots from.source from.first from.second from.operands from.reached) (second from.source from.first from.second from.operands from.reached) (subst (IsEdgeImage m.images.items from.second) (sym same) from.q_is) sign
  ]

  item_source : (edges : List Edge) → ((e : Edge) → Contains edges e → Contains m.kept.items e.node) → (e : Edge) → IsItem nodes edges e → (y : Edge) × IsItem old roots y × IsEdgeImage m.images.items y e
  item_source edges starts _ (gate k g) =
      let from = gate_source edges starts k g in
      (plain from.0, gate from.0 from.1, record { of_node = plain k; at = from.2; is = refl })
  item_source edges starts _ (first k a b pair r sign) =
      let from = kept_made k (is.each k (reached_kept edges starts k r)) (record { first = a; second = b; operands = pair }) in
      operand_source k a from (λ p q made_of. first_of_two a b p q (sym made_of ∙ pair)) sign
  item_source edges starts _ (second k a b pair r sign) =
      let from = kept_made k (is.each k (reached_kept edges starts k r)) (record { first = a; second = b; operands = pair }) in
      operand_source k b from (λ p q made_of. second_of_two a b p q (sym made_of ∙ pair)) sign

  -- no more gates, and no more gates and complements
  pub no_more_gates : (edges : List Edge) → ((e : Edge) → Contains edges e → Contains m.kept.items e.node) → AreNoMore (IsGate nodes edges) (IsGate old roots)
  no_more_gates edges starts =
      no_more (IsGate nodes edges) (IsGate old roots) (λ source k. IsImage m.images.items source (plain k)) (gate_source edges starts) (λ source a b at_a at_b. ap (λ (e : Edge). e.node) (image_once m.images.items source (plain a) (plain b) at_a at_b))

  pub no_more_items : (edges : List Edge) → ((e : Edge) → Contains edges e → Contains m.kept.items e.node) → AreNoMore (IsItem nodes edges) (IsItem old roots)
  no_more_items edges starts =
      no_more (IsItem nodes edges) (IsItem old roots) (IsEdgeImage m.images.items) (item_source edges starts) (edge_image_once m.images.items)

-- kept and-nodes were compared, in one order or the other
pub unlike_kept : (nodes : List Node) (edges : List Edge) (apart : List Loose) (kept : List ℕ) → IsGraph nodes → AreKept nodes apart kept → ((k : ℕ) → IsReached nodes edges k → Contains kept k) → AreUnlike nodes edges apart
unlike_kept nodes edges apart kept graph are reached = record {
  two = λ n m g h ne same.
      let i = place_of kept n (reached n g.reached) in
      let j = place_of kept m (reached m h.reached) in
      by_order n m g h same i.0 j.0 i.1 j.1 (cases_unequal i.0 j.0 (λ e. ne (same_Some n m (sym i.1 ∙ ap (slice_get kept) e ∙ j.1))));
  one = λ n g same.
      let j = place_of kept n (reached n g.reached) in
      let later : 0 < j.0 = (let ne = λ (e : j.0 ≡ 0). not_constant n g.conjunction (same_Some n 0 (sym j.1 ∙ ap (slice_get kept) e ∙ are.constant)) in cases_zero j.0 ne) in
      pair_of_places (λ a b. IsAndNode nodes b → IsComparedWith nodes apart b a) kept 0 j.0 0 n are.compared later are.constant j.1 g.conjunction same;
}
  where
    not_constant : (n : ℕ) → IsAndNode nodes n → n ≢ 0
    not_constant n conjunction e =
        let none : pair_at nodes n ≡ None = ap (pair_at nodes) e ∙ ap (option_and_then pair_of) graph.constant in
        none-some (conjunction.first, conjunction.second) (sym none ∙ conjunction.operands)

    cases_zero : (n : ℕ) → n ≢ 0 → 0 < n
    cases_zero n ne = omega (arith, ne)

    by_order : (n m : ℕ) → IsGate nodes edges n → IsGate nodes edges m → (same : Bool) (i j : ℕ) → slice_get kept i ≡ Some n → slice_get kept j ≡ Some m → (i < j) ⊎ (j < i) → AreCompared nodes apart n m same
    by_order n m g h same i j at_i at_j (inl lt) alike =
        let compared = pair_of_places (λ a b. IsAndNode nodes b → IsComparedWith nodes apart b a) kept i j n m are.compared lt at_i at_j h.conjunction same in
        inr (subst (λ o. IsCompared nodes apart m o same) (other_some n (not_constant n g.conjunction)) compared (alike_flip nodes n m same alike))
    by_order n m g h same i j at_i at_j (inr gt) alike =
        let compared = pair_of_places (λ a b. IsAndNode nodes b → IsComparedWith nodes apart b a) kept j i m n are.compared gt at_j at_i g.conjunction same in
        inl (subst (λ o. IsCompared nodes apart n o same) (other_some m (not_constant m h.conjunction)) compared alike)
