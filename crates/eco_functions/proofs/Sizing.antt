-- Sizes in order: where edges have no more wires than others in the fixed form, they reach no more.
use Rattle.std.proofs.Common.{◌≡◌, ◌≢◌, ℕ, ◌≤◌, Bool, false, not, List, length, map, take, drop, ◌-◌, ◌++◌, refl, sym, ◌∙◌, ap, subst, arith}
use Rattle.std.specs.List.{All, AllPairs, Contains}
use Rattle.std.proofs.lemmas.Bool.{false≢true, not-true}
use Rattle.std.proofs.lemmas.List.{length-drop, length-map, length-take, take_all}
use Rattle.std.proofs.Math.Seq.{drop-append_seam}
use Rattle.std.proofs.lemmas.List.Kept.{AllPairs-filter}
use Rattle.std.proofs.lemmas.Option.{same_Some, slice_get_within}
use Rattle.std.proofs.lemmas.List.Elements.{All-contains}
use Rattle.eco_lists.proofs.Places.{All_from_places, Contains_at, item_at, pair_at, pairs_from_places, place_in_front}
use Rattle.eco_lists.proofs.Members.{map-Contains, Contains-filter, filter-Contains}
use Rattle.eco_aig.specs.declared.edge.Edge.{Edge}
use Rattle.eco_aig.specs.declared.node.Node.{Node}
use Rattle.eco_aig.specs.Edges.{plain}
use Rattle.eco_aig.specs.Graph.{IsGraph, inputs_of}
use Rattle.eco_merge.specs.Counting.{AreNoMore, IsGate, IsItem, gate, first, second}
use Rattle.eco_aig.specs.Reached.{AreReached}
use Rattle.eco_splice.specs.Wired.{wired}
use Rattle.eco_splice.specs.GraphPatch.{netted}
use Rattle.eco_splice.proofs.WiredLemmas.{edge_is}
use Rattle.eco_functions.specs.declared.sizes.Sizes.{Sizes}
use Rattle.eco_functions.specs.Sizes.{AreSizes, nodes_among}
use Rattle.eco_functions.specs.Improving.{ReachNoMoreThan}
use Rattle.eco_functions.proofs.Pairing.{map_at}
use Rattle.eco_functions.proofs.Smaller.{no_longer, wired_item, item_wired, wired_once}

-- so many of a list without repeats
some_of : {X : Type 0} (P : X → Type 0) (n : ℕ) (ys : List X) → AllPairs (λ a b. a ≢ b) ys → ((y : X) → Contains ys y → P y) → n ≤ length ys → (zs : List X) × AllPairs (λ a b. a ≢ b) zs × All P zs × (length zs ≡ n)
some_of P n ys apart are le = (
  take n ys,
  pairs_from_places (λ a b. a ≢ b) (take n ys) (λ i j x y lt at_i at_j.
      pair_at (λ a b. a ≢ b) ys i j x y apart lt (place_in_front n ys i x at_i).1 (place_in_front n ys j y at_j).1),
  All_from_places P (take n ys) (λ k y at. are y (Contains_at ys k y (place_in_front n ys k y at).1)),
  omega (arith, le, length-take n ys),
)

-- different members keep apart under a map that tells them apart
map_apart : {X Y : Type 0} (f : X → Y) (xs : List X) → AllPairs (λ a b. a ≢ b) xs → ((x y : X) → Contains xs x → Contains xs y → f x ≡ f y → x ≡ y) → AllPairs (λ a b. a ≢ b) (map f xs)
map_apart {X} {Y} f xs apart tells = pairs_from_places (λ a b. a ≢ b) (map f xs) (λ i j x y lt at_i at_j same.
    let count : length (map f xs) ≡ length xs = length-map xs f in
    let within_i = slice_get_within (map f xs) i x at_i in
    let within_j = slice_get_within (map f xs) j y at_j in
    let a = item_at xs i (omega (arith, count, within_i)) in
    let b = item_at xs j (omega (arith, count, within_j)) in
    let image_a : f a.0 ≡ x = same_Some (f a.0) x (sym (map_at f xs i a.0 a.1) ∙ at_i) in
    let image_b : f b.0 ≡ y = same_Some (f b.0) y (sym (map_at f xs j b.0 b.1) ∙ at_j) in
    pair_at (λ a b. a ≢ b) xs i j a.0 b.0 apart lt a.1 b.1 (tells a.0 b.0 (Contains_at xs i a.0 a.1) (Contains_at xs j b.0 b.1) (image_a ∙ same ∙ sym image_b)))

-- an item that is no complement is an and-node
item_gate : (nodes : List Node) (roots : List Edge) (e : Edge) → IsItem nodes roots e → e.complemented ≡ false → IsGate nodes roots e.node
item_gate nodes roots _ (gate k g) off = g
item_gate nodes roots _ (first k a b at reached sign) off = absurd (false≢true (sym off ∙ sign))
item_gate nodes roots _ (second k a b at reached sign) off = absurd (false≢true (sym off ∙ sign))

-- the edge is no complement
abbrev is_node : Edge → Bool
is_node e = not e.complemented

-- the node of an edge
abbrev node_of : Edge → ℕ
node_of e = e.node

-- an and-node that the edges reach, as the plain edge to it
record IsPlainGate (nodes : List Node) (roots : List Edge) (e : Edge) : Type 0 where
  gate : IsGate nodes roots e.node
  sign : e.complemented ≡ false

module _ (nodes : List Node) (edges others : List Edge) (new old : List Bool) (graph : IsGraph nodes) (are_new : AreReached nodes edges new) (are_old : AreReached nodes others old) where
  -- wires that are no more give items that are no more
  items_no_more : length (wired nodes new) ≤ length (wired nodes old) → AreNoMore (IsItem nodes edges) (IsItem nodes others)
  items_no_more le = λ xs apart items.
      let few = no_longer xs (wired nodes new) apart (λ x c. item_wired nodes edges new are_new x (All-contains (IsItem nodes edges) xs x items c)) in
      some_of (IsItem nodes others) (length xs) (wired nodes old) (wired_once nodes others old are_old graph) (λ e c. wired_item nodes others old are_old e c) (omega (arith, few, le))

  -- those that are no complements give and-nodes
  gates_no_more : length (nodes_among (wired nodes new)) ≤ length (nodes_among (wired nodes old)) → AreNoMore (IsGate nodes edges) (IsGate nodes others)
  gates_no_more le = λ xs apart gates.
      let few = no_longer (map plain xs) (nodes_among (wired nodes new)) (map_apart plain xs apart (λ x y at_x at_y same. ap (λ (e : Edge). e.node) same)) (λ e c.
      let from = map-Contains plain xs e c in
      let has = item_wired nodes edges new are_new (plain from.0) (gate from.0 (All-contains (IsGate nodes edges) xs from.0 gates from.1)) in
      subst (Contains (nodes_among (wired nodes new))) from.2 (Contains-filter is_node (wired nodes new) (plain from.0) has refl)) in
      let count : length (map plain xs) ≡ length xs = length-map xs plain in
      let found = some_of (IsPlainGate nodes others) (length xs) (nodes_among (wired nodes old))
      (AllPairs-filter (λ a b. a ≢ b) is_node (wired nodes old) (wired_once nodes others old are_old graph))
      (λ e c.
      let kept = filter-Contains is_node (wired nodes old) e c in
      let off : e.complemented ≡ false = not-true e.complemented kept.1 in
      record { gate = item_gate nodes others e (wired_item nodes others old are_old e kept.0) off; sign = off })
      (omega (arith, few, le, count)) in
      let has : (e : Edge) → Contains found.0 e → IsPlainGate nodes others e = λ e c. All-contains (IsPlainGate nodes others) found.0 e found.2 c in
      let same_len = found.3 in (
        map node_of found.0,
        map_apart node_of found.0 found.1 (λ x y at_x at_y same. edge_is x y same ((has x at_x).sign ∙ sym (has y at_y).sign)),
        All_from_places (IsGate nodes others) (map node_of found.0) (λ k x at.
            let from = map-Contains node_of found.0 x (Contains_at (map node_of found.0) k x at) in
            subst (IsGate nodes others) from.2 (has from.0 from.1).gate),
        length-map found.0 node_of ∙ same_len,
      )

-- sizes that are no larger
pub sizes_no_more : (nodes : List Node) (edges others : List Edge) (new old : Sizes) → IsGraph nodes → AreSizes nodes edges new → AreSizes nodes others old → new.gates ≤ old.gates → new.wires ≤ old.wires → ReachNoMoreThan nodes edges nodes others
sizes_no_more nodes edges others new old graph are_new are_old gates wires = record {
  gates = gates_no_more nodes edges others are_new.marks are_old.marks graph are_new.reached are_old.reached (omega (arith, gates, are_new.gates, are_old.gates));
  items = items_no_more nodes edges others are_new.marks are_old.marks graph are_new.reached are_old.reached (omega (arith, wires, are_new.wires, are_old.wires));
}

-- what is behind the inputs
pub behind_inputs : (nodes : List Node) (marks : List Bool) (edges : List Edge) (n : ℕ) → edges ≡ netted nodes (wired nodes marks) → n ≡ length (inputs_of nodes) → take (length edges - n) (drop n edges) ≡ wired nodes marks
behind_inputs nodes marks edges n same count =
    let inputs = map plain (inputs_of nodes) in
    let all : length inputs ≡ n = length-map (inputs_of nodes) plain ∙ sym count in
    let rest : drop n edges ≡ wired nodes marks = ap (drop n) same ∙ ap (λ (k : ℕ). drop k (inputs ++ wired nodes marks)) (sym all) ∙ drop-append_seam inputs (wired nodes marks) in
    take_all (length edges - n) (drop n edges) (omega (arith, length-drop n edges)) ∙ rest
